-- What is suggested for a deck whose first line has no words.
use Rattle.std.specs.Prelude.{ℕ, ◌==◌, ◌||◌, ◌&&◌, nat_lt, Bool, false, if◌then◌else◌, List, [], ◌∷◌, ◌++◌, codes, decimal, Option, None, Some}
use Rattle.std.specs.List.{list_all}
use Rattle.std.specs.Option.{option_map_or}
use Rattle.mistakes.specs.declared.subject.Subject.TheVariants.{Deck}
use Rattle.mistakes.specs.Lines.{line_at}
use Rattle.explanations.specs.OtherTexts.{has_form_in}
use Rattle.texts.specs.Text.{code_lines, is_white}

-- ---- an empty deck

-- white space and line feeds alone, if anything
abbrev pub is_blank : List ℕ → Bool
is_blank text = list_all (λ byte. is_white byte || byte == 10) text

abbrev pub deck_rule : List ℕ
deck_rule = codes "standard input is empty: a deck begins with %nullsim and the horizon\n"

abbrev pub blank_told : List ℕ → List ℕ
blank_told text = if is_blank text then deck_rule else []

-- ---- a deck that begins in a later line

-- the line with this number has the form of the first line of a deck
abbrev pub begins_deck : List ℕ → ℕ → Bool
begins_deck text number = option_map_or (has_form_in Deck) (line_at number text) false

abbrev pub before_told : ℕ → List ℕ
before_told number =
    codes "a deck has no comments or empty lines before %nullsim: leave out the lines before line " ++ decimal number ++ codes "\n"

abbrev pub late_told : List ℕ → ℕ → List ℕ
late_told text number = if nat_lt 1 number && begins_deck text number then before_told number else []

-- ---- both

-- by the lines of the text that have words
abbrev pub deck_start_of : List ℕ → List (ℕ × List ℕ) → List ℕ
deck_start_of text [] = blank_told text
deck_start_of text ((number, code) ∷ lines) = late_told text number

-- if the text is known
abbrev pub deck_start : Option (List ℕ) → List ℕ
deck_start None = []
deck_start (Some text) = deck_start_of text (code_lines text)
