-- .bench lines with two statements, with a part of one, or with names that begin with $.
use Rattle.std.specs.Prelude.{ℕ, ◌+◌, ◌==◌, ◌&&◌, not, nat_lt, Bool, if◌then◌else◌, List, [], ◌∷◌, ◌++◌, drop, filter, map, take, codes, decimal, bytes_eq, slice_index, Option, None, Some}
use Rattle.std.specs.List.{find, list_any}
use Rattle.mistakes.specs.declared.subject.Subject.TheVariants.{Bench}
use Rattle.mistakes.specs.BenchLists.{line_told}
use Rattle.mistakes.specs.Corrections.{Refused, fits_some, has_net, is_accepted, is_shown_whole, written, written_line}
use Rattle.mistakes.specs.Tokens.{bytes_of, tokens_of}
use Rattle.texts.specs.Text.{code_lines}

-- ---- two statements

-- the number of words up to the first `)`, with it
unfoldable pub close_place : List (List ℕ) → ℕ
close_place [] = 0
close_place (word ∷ words) = if bytes_eq word (codes ")") then 1 else close_place words + 1

abbrev pub to_close : List (List ℕ) → List (List ℕ)
to_close words = take (close_place words) words

abbrev pub after_close : List (List ℕ) → List (List ℕ)
after_close words = drop (close_place words) words

abbrev pub without : List ℕ → List (List ℕ) → List (List ℕ)
without mark words = filter (λ word. not (bytes_eq word mark)) words

unfoldable pub both_told : List (List ℕ) → List (List ℕ) → List ℕ
both_told first second = codes "one statement a line: " ++ written first ++ codes " and " ++ written second ++ codes "\n"

-- two lines, if the reader takes both
unfoldable pub both_if_taken : Refused → List (List ℕ) → List (List ℕ) → List ℕ
both_if_taken refused first second = if is_accepted refused first && is_accepted refused second then both_told first second else []

-- the statement up to the first `)`, and the one after it
abbrev pub two_told : Refused → List ℕ
two_told refused = both_if_taken refused (to_close refused.words) (without (codes ";") (after_close refused.words))

-- ---- a part of a statement

-- the next line with words
abbrev pub next_line : ℕ → List ℕ → Option (ℕ × List ℕ)
next_line number text = find (λ (line : ℕ × List ℕ). nat_lt number line.0) (code_lines text)

-- both lines as one, without a `\` at the end of the first
abbrev pub joined : List (List ℕ) → List (List ℕ) → List (List ℕ)
joined words others = without (codes "\\") words ++ others

abbrev pub closed_told : Refused → List ℕ
closed_told refused = line_told refused (joined refused.words (codes ")" ∷ []))

unfoldable pub joined_told : ℕ → List (List ℕ) → List ℕ
joined_told number words = codes "join line " ++ decimal number ++ codes " to it: " ++ written_line words

-- a line that is joined with the next one, if the reader takes it, or if the next line has a form the one with a `)`
unfoldable pub taken_or_closed : Refused → ℕ → List (List ℕ) → List (List ℕ) → List ℕ
taken_or_closed refused number line others =
    if is_accepted refused line then joined_told number line
    else if fits_some refused.forms others then closed_told refused
    else []

-- with the words of the next line
unfoldable pub joined_or_closed : Refused → ℕ → List (List ℕ) → List ℕ
joined_or_closed refused number others = taken_or_closed refused number (joined refused.words others) others

abbrev pub with_next : Refused → Option (ℕ × List ℕ) → List ℕ
with_next refused None = closed_told refused
with_next refused (Some (number, code)) =
    if is_shown_whole code then joined_or_closed refused number (bytes_of (tokens_of Bench code)) else []

abbrev pub part_told : Refused → List ℕ
part_told refused = with_next refused (next_line refused.line refused.circuit)

-- ---- names that begin with $

abbrev pub has_dollar : List ℕ → Bool
has_dollar word = slice_index word 0 == 36

abbrev pub without_dollar : List ℕ → List ℕ
without_dollar word = if has_dollar word then drop 1 word else word

-- its name without the $ is a net's
abbrev pub is_used : Refused → List ℕ → Bool
is_used refused word = has_dollar word && has_net refused (drop 1 word)

unfoldable pub renamed_told : List (List ℕ) → List ℕ
renamed_told words = codes "no name begins with '$'; rename it in each line: " ++ written_line words

-- a line without dollar signs, if the reader takes it and no net has a name without its $
unfoldable pub renamed_if_taken : Refused → List (List ℕ) → List ℕ
renamed_if_taken refused words =
    if is_accepted refused words && not (list_any (is_used refused) refused.words) then renamed_told words else []

-- each name without its $
abbrev pub dollar_told : Refused → List ℕ
dollar_told refused = renamed_if_taken refused (map without_dollar refused.words)
