-- Gates that are written as formulas, with a mark such as & in place of a gate word.
use Rattle.std.specs.Prelude.{ℕ, ◌==◌, ◌||◌, ◌&&◌, not, Bool, if◌then◌else◌, List, [], ◌∷◌, ◌++◌, drop, flat_map, take, codes, bytes_eq}
use Rattle.std.specs.List.{list_all, list_any, prefix_len}
use Rattle.mistakes.specs.BenchCorrections.{gate_form}
use Rattle.mistakes.specs.BenchLines.{is_among}
use Rattle.mistakes.specs.Corrections.{Refused, has_net, is_accepted, written_line}
use Rattle.mistakes.specs.Tokens.{is_mark_word}
use Rattle.texts.specs.Text.{is_empty}

-- ---- names and marks, which may be one word

abbrev pub is_operator : ℕ → Bool
is_operator byte = list_any (λ mark. mark == byte) (codes "&*|+^!~")

-- a part of a word, unless it is empty; and what is before the first such marks of a word, they, and what is after them
abbrev pub part_of : List ℕ → List (List ℕ)
part_of part = (if is_empty part then [] else part ∷ [])

abbrev pub marked_parts : List ℕ → List (List ℕ)
marked_parts bytes =
    let marks = prefix_len is_operator bytes in
    part_of (take marks bytes) ++ part_of (drop marks bytes)

abbrev pub parts_of : List ℕ → List (List ℕ)
parts_of word =
    let before = prefix_len (λ byte. not (is_operator byte)) word in
    part_of (take before word) ++ marked_parts (drop before word)

-- the words of `NAME = ..`, those after the `=` in such parts
abbrev pub cut_words : List (List ℕ) → List (List ℕ)
cut_words words = take 2 words ++ flat_map parts_of (drop 2 words)

-- ---- the gate

-- for a mark between two names, and for one before a name; empty for any other
abbrev pub gate_between : List ℕ → List ℕ
gate_between mark =
    if is_among (codes "&" ∷ codes "&&" ∷ codes "*" ∷ []) mark then codes "AND"
    else if is_among (codes "|" ∷ codes "||" ∷ codes "+" ∷ []) mark then codes "OR"
    else if bytes_eq mark (codes "^") then codes "XOR"
    else []

abbrev pub gate_before : List ℕ → List ℕ
gate_before mark = if is_among (codes "!" ∷ codes "~" ∷ []) mark then codes "NOT" else []

-- `NAME = MARK NAME`, or `NAME = NAME MARK NAME`, as a statement
abbrev pub statement_of : List (List ℕ) → List (List ℕ)
statement_of (net ∷ equals ∷ mark ∷ pin ∷ []) = net ∷ equals ∷ gate_before mark ∷ codes "(" ∷ pin ∷ codes ")" ∷ []
statement_of (net ∷ equals ∷ pin ∷ mark ∷ other ∷ []) =
    net ∷ equals ∷ gate_between mark ∷ codes "(" ∷ pin ∷ codes "," ∷ other ∷ codes ")" ∷ []
statement_of words = []

-- ---- the text about it

-- a word is a mark of .bench lines, or a net
abbrev pub is_mark_or_net : Refused → List ℕ → Bool
is_mark_or_net refused word = is_mark_word word || has_net refused word

-- a statement, if the reader takes it and its pins are nets
unfoldable pub statement_told : Refused → List (List ℕ) → List ℕ
statement_told refused words =
    if is_accepted refused words && list_all (is_mark_or_net refused) (drop 3 words) then gate_form ++ written_line words else []

abbrev pub formula_told : Refused → List ℕ
formula_told refused = statement_told refused (statement_of (cut_words refused.words))
