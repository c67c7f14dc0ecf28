-- Corrected lines: what a line without a form may be written as, if only one correction is known that its reader accepts.
use Rattle.std.specs.Prelude.{ℕ, ◌-◌, ◌||◌, ◌&&◌, not, nat_le, Bool, true, false, if◌then◌else◌, List, [], ◌∷◌, ◌++◌, drop, flat_map, length, codes, bytes_eq, slice_get, unwrap_or, Option, None, Some}
use Rattle.std.specs.List.{list_all, list_any}
use Rattle.std.specs.Option.{option_map_or, option_to_list}
use Rattle.std.specs.Str.{str_eq_ignore_ascii_case}
use Rattle.mistakes.specs.declared.subject.Subject.{Subject}
use Rattle.mistakes.specs.declared.subject.Subject.TheVariants.{Bench, Delays, Stimuli}
use Rattle.mistakes.specs.BenchLines.{defines, is_among, is_assignment}
use Rattle.mistakes.specs.Forms.{Slot, fixed, gate_word, net_name, more_names, line_end, next, port_row}
use Rattle.mistakes.specs.Places.{is_end}
use Rattle.texts.specs.Text.{code_lines, is_empty, is_plain, number_of}

-- ---- whole lines

abbrev pub ends : List Slot → Bool
ends [] = false
ends (slot ∷ row) = is_end slot

-- the row takes each of the words and marks, in order, and ends after them
abbrev pub fits : List Slot → List (List ℕ) → Bool
fits row [] = ends row
fits row (word ∷ words) = option_map_or (λ after. fits after words) (next row word) false

abbrev pub fits_some : List (List Slot) → List (List ℕ) → Bool
fits_some forms words = list_any (λ row. fits row words) forms

-- ---- what a reader asks for beside the form

-- the word at a place of a line, or nothing
abbrev pub word_of : ℕ → List (List ℕ) → List ℕ
word_of place words = unwrap_or (slice_get words place) []

-- NAME = GATE(NAME), and NAME = GATE(NAME, NAME)
abbrev pub one_pin_row : List Slot
one_pin_row = net_name ∷ fixed (codes "=") ∷ gate_word ∷ fixed (codes "(") ∷ net_name ∷ fixed (codes ")") ∷ line_end ∷ []

abbrev pub pins_row : List Slot
pins_row = net_name ∷ fixed (codes "=") ∷ gate_word ∷ fixed (codes "(") ∷ net_name ∷ more_names ∷ []

-- the gates that take one pin, and those that take one or more
abbrev pub one_pin_gates : List (List ℕ)
one_pin_gates = codes "NOT" ∷ codes "INV" ∷ codes "BUF" ∷ codes "BUFF" ∷ codes "DFF" ∷ []

abbrev pub pins_gates : List (List ℕ)
pins_gates = codes "AND" ∷ codes "NAND" ∷ codes "OR" ∷ codes "NOR" ∷ codes "XOR" ∷ codes "XNOR" ∷ []

abbrev pub is_called : List (List ℕ) → List ℕ → Bool
is_called names word = list_any (str_eq_ignore_ascii_case word) names

abbrev pub port_rows : List (List Slot)
port_rows = port_row (codes "INPUT") ∷ port_row (codes "OUTPUT") ∷ []

-- a .bench line with a gate word, and as many pins as the gate takes
abbrev pub is_statement : List (List ℕ) → Bool
is_statement words =
    fits_some port_rows words
    || ((fits one_pin_row words && is_called one_pin_gates (word_of 2 words))
    || (fits pins_row words && is_called pins_gates (word_of 2 words)))

-- a number of at least and at most these
abbrev pub is_within : ℕ → ℕ → List ℕ → Bool
is_within least most word = option_map_or (λ number. nat_le least number && nat_le number most) (number_of word) false

abbrev pub is_value : List ℕ → Bool
is_value word = is_among (codes "0" ∷ codes "1" ∷ codes "x" ∷ codes "X" ∷ []) word

-- the first words of delay lines that are never suggested
abbrev pub other_delay_words : List (List ℕ)
other_delay_words = codes "clock" ∷ codes "init" ∷ codes "wire" ∷ []

-- the gate, the numbers and the values are such as the reader of the text takes: NAME TICKS or delay NAME TICKS, and TICK NAME VALUE
abbrev pub is_in_range : Subject → List (List ℕ) → Bool
is_in_range Bench words = is_statement words
is_in_range Delays words =
    not (is_among other_delay_words (word_of 0 words)) && is_within 1 1_000_000 (word_of (length words - 1) words)
is_in_range Stimuli words = is_within 0 10_000_000 (word_of 0 words) && is_value (word_of 2 words)
is_in_range other words = true

-- ---- lines that are refused

-- a line that is shown whole, and that a reader may take
abbrev pub is_shown_whole : List ℕ → Bool
is_shown_whole code = is_plain code && nat_le (length code) 100

-- the line with this number, which none of its forms takes, by its words and marks; `circuit` is the .bench text
pub record Refused : Type 0 where
  pub subject : Subject
  pub line : ℕ
  pub forms : List (List Slot)
  pub circuit : List ℕ
  pub words : List (List ℕ)

-- the reader takes these words as a line
abbrev pub is_accepted : Refused → List (List ℕ) → Bool
is_accepted refused words = fits_some refused.forms words && is_in_range refused.subject words

-- stimuli are for inputs, delays for gates and flip-flops, all else is for any net
abbrev pub suits : Subject → List ℕ → Bool
suits Stimuli code = not (is_assignment code)
suits Delays code = is_assignment code
suits other code = true

abbrev pub defines_suited : Subject → List ℕ → ℕ × List ℕ → Bool
defines_suited subject name line = suits subject line.1 && defines name line

-- a line of the circuit defines this net, which is one that the text may name
abbrev pub has_net : Refused → List ℕ → Bool
has_net refused name = list_any (defines_suited refused.subject name) (code_lines refused.circuit)

abbrev pub has_net_at : Refused → ℕ → Bool
has_net_at refused place = option_map_or (has_net refused) (slice_get refused.words place) false

-- ---- corrections

-- a part of a corrected line: the word at a place of the refused line, a word of its own, or the words from a place on
pub data Piece : Type 0 where
  at_place from_place : ℕ → Piece
  own : List ℕ → Piece

-- what is wrong with a line, as a row of slots; the places of the words that have to be nets; names that no net may have; what is
-- said of it; and the corrected lines
pub record Correction : Type 0 where
  pub wrong : List Slot
  pub nets : List ℕ
  pub unused : List (List ℕ)
  pub said : List ℕ
  pub lines : List (List Piece)

abbrev pub words_of_piece : List (List ℕ) → Piece → List (List ℕ)
words_of_piece words (at_place place) = option_to_list (slice_get words place)
words_of_piece words (from_place place) = drop place words
words_of_piece words (own word) = word ∷ []

-- the words of a corrected line
abbrev pub made : List (List ℕ) → List Piece → List (List ℕ)
made words pieces = flat_map (words_of_piece words) pieces

-- the line is wrong in this way, and the reader takes the corrected lines
abbrev pub applies : Refused → Correction → Bool
applies refused one =
    fits one.wrong refused.words
    && (list_all (has_net_at refused) one.nets
    && (not (list_any (has_net refused) one.unused) && list_all (λ pieces. is_accepted refused (made refused.words pieces)) one.lines))

-- the only correction that applies
abbrev pub only : Refused → List Correction → Option Correction
only refused [] = None
only refused (one ∷ others) =
    if applies refused one then (if list_any (applies refused) others then None else Some one)
    else only refused others

-- ---- the text about it

-- marks that no space comes before
abbrev pub is_tight : List ℕ → Bool
is_tight word = is_among (codes "(" ∷ codes ")" ∷ codes "," ∷ []) word

-- what is between a word and those after it
abbrev pub gap : List ℕ → List (List ℕ) → List ℕ
gap word [] = []
gap word (after ∷ words) = if bytes_eq word (codes "(") || is_tight after then [] else codes " "

-- words and marks as a line
unfoldable pub written : List (List ℕ) → List ℕ
written [] = []
written (word ∷ words) = word ++ gap word words ++ written words

unfoldable pub written_line : List (List ℕ) → List ℕ
written_line words = written words ++ codes "\n"

abbrev pub and_more : {A : Type 0} → List A → List ℕ
and_more lines = if is_empty lines then [] else codes " and "

unfoldable pub written_all : List (List ℕ) → List (List Piece) → List ℕ
written_all words [] = []
written_all words (pieces ∷ lines) = written (made words pieces) ++ and_more lines ++ written_all words lines

unfoldable pub correction_told : List (List ℕ) → Correction → List ℕ
correction_told words one = one.said ++ written_all words one.lines ++ codes "\n"

-- the only one of some corrections that applies to a line
abbrev pub told_by : List Correction → Refused → List ℕ
told_by table refused = option_map_or (correction_told refused.words) (only refused table) []
