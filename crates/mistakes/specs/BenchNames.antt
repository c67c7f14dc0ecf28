-- .bench lines in which a name has white space.
use Rattle.std.specs.Prelude.{ℕ, ◌||◌, ◌&&◌, not, Bool, true, if◌then◌else◌, List, [], ◌∷◌, ◌++◌, codes}
use Rattle.mistakes.specs.declared.subject.Subject.TheVariants.{Bench}
use Rattle.mistakes.specs.BenchLists.{meets_word}
use Rattle.mistakes.specs.Corrections.{Refused, has_net, is_accepted, is_called, one_pin_gates, pins_gates, word_of, written_line}
use Rattle.mistakes.specs.Tokens.{bytes_of, tokens_of}

-- the words and marks as one line without white space, with a `_` between two words
abbrev pub underscored : List (List ℕ) → List ℕ
underscored [] = []
underscored (word ∷ words) = word ++ (if meets_word word words then codes "_" else []) ++ underscored words

abbrev pub port_words : List (List ℕ)
port_words = codes "INPUT" ∷ codes "OUTPUT" ∷ []

-- INPUT, OUTPUT or a gate word, in any case of its letters
abbrev pub is_form_word : List ℕ → Bool
is_form_word word = is_called port_words word || (is_called one_pin_gates word || is_called pins_gates word)

-- two words may be parts of one name: the first is no word of a form, and the second is no net
abbrev pub may_be_name : Refused → List ℕ → List ℕ → Bool
may_be_name refused word after = not (is_form_word word || has_net refused after)

-- any two words without a mark between them may
abbrev pub may_be_names : Refused → List (List ℕ) → Bool
may_be_names refused [] = true
may_be_names refused (word ∷ words) =
    (not (meets_word word words) || may_be_name refused word (word_of 0 words)) && may_be_names refused words

unfoldable pub names_told : List (List ℕ) → List ℕ
names_told words = codes "a name has no white space: write " ++ written_line words

-- the line with other names, if the reader takes it
unfoldable pub names_if_taken : Refused → List (List ℕ) → List ℕ
names_if_taken refused words = if is_accepted refused words && may_be_names refused refused.words then names_told words else []

abbrev pub spaced_told : Refused → List ℕ
spaced_told refused = names_if_taken refused (bytes_of (tokens_of Bench (underscored refused.words)))
