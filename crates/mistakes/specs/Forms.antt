-- The forms of the lines of each text, as rows of slots.
use Rattle.std.specs.Prelude.{ℕ, ◌==◌, ◌||◌, ◌&&◌, not, Bool, true, false, if◌then◌else◌, List, [], ◌∷◌, codes, bytes_eq, is_some, slice_index, Option, None, Some}
use Rattle.std.specs.Str.{str_eq_ignore_ascii_case}
use Rattle.mistakes.specs.declared.subject.Subject.{Subject}
use Rattle.mistakes.specs.declared.subject.Subject.TheVariants.{Bench, Delays, Stimuli, Schedule, Deck}
use Rattle.mistakes.specs.Tokens.{is_mark}
use Rattle.texts.specs.Text.{code_lines, number_of, words_of}

-- ---- slots

-- what a form has at one place of its line: a fixed word or mark; a keyword, in any case of its letters; a number or any word, by
-- what it is called; in .bench lines a name, a gate word, or what comes after a name in a list; and the end of the line
pub data Slot : Type 0 where
  fixed keyword numeral any_word : List ℕ → Slot
  net_name gate_word more_names line_end : Slot

-- the slot takes a word or a mark
abbrev pub takes : Slot → List ℕ → Bool
takes (fixed text) token = bytes_eq token text
takes (keyword text) token = str_eq_ignore_ascii_case token text
takes (numeral called) token = is_some (number_of token)
takes (any_word called) token = true
takes net_name token = not (is_mark (slice_index token 0) || slice_index token 0 == 36)
takes gate_word token = not (is_mark (slice_index token 0))
takes more_names token = false
takes line_end token = false

-- what may come after a name in a list: a comma and another name, or the end of the list, which ends the line
abbrev pub after_name : List ℕ → Option (List Slot)
after_name token =
    if bytes_eq token (codes ",") then Some (net_name ∷ more_names ∷ [])
    else if bytes_eq token (codes ")") then Some (line_end ∷ [])
    else None

-- what is left of a row after a word or a mark, if the row takes it
abbrev pub next : List Slot → List ℕ → Option (List Slot)
next [] token = None
next (more_names ∷ row) token = after_name token
next (slot ∷ row) token = if takes slot token then Some row else None

-- ---- the forms of each text

abbrev pub port_row : List ℕ → List Slot
port_row word = keyword word ∷ fixed (codes "(") ∷ net_name ∷ fixed (codes ")") ∷ line_end ∷ []

abbrev pub gate_row : List Slot → List Slot
gate_row pins = net_name ∷ fixed (codes "=") ∷ gate_word ∷ fixed (codes "(") ∷ pins

abbrev pub bench_forms : List (List Slot)
bench_forms =
    port_row (codes "INPUT") ∷ port_row (codes "OUTPUT")
    ∷ gate_row (fixed (codes ")") ∷ line_end ∷ []) ∷ gate_row (net_name ∷ more_names ∷ []) ∷ []

abbrev pub a_name : Slot
a_name = any_word (codes "NAME")

abbrev pub a_place : Slot
a_place = numeral (codes "PLACE, a whole number")

abbrev pub a_delay : Slot
a_delay = numeral (codes "TICKS, a whole number of 1 to 1000000")

-- NAME TICKS
abbrev pub first_row : List Slot
first_row = a_name ∷ a_delay ∷ line_end ∷ []

-- timing version 2
abbrev pub version_row : List Slot
version_row = fixed (codes "timing") ∷ fixed (codes "version") ∷ fixed (codes "2") ∷ line_end ∷ []

abbrev pub second_forms : List (List Slot)
second_forms =
    (fixed (codes "delay") ∷ a_name ∷ a_delay ∷ line_end ∷ [])
    ∷ (fixed (codes "clock") ∷ a_name ∷ numeral (codes "PERIOD, a whole number of 1 to 10000000")
    ∷ numeral (codes "PHASE, a whole number below PERIOD") ∷ line_end ∷ [])
    ∷ (fixed (codes "init") ∷ a_name ∷ any_word (codes "VALUE, which is 0, 1, x or X") ∷ line_end ∷ [])
    ∷ (fixed (codes "wire") ∷ a_name ∷ a_place ∷ numeral (codes "TICKS, a whole number of 0 to 1000000") ∷ line_end ∷ [])
    ∷ []

abbrev pub stimulus_row : List Slot
stimulus_row =
    numeral (codes "TICK, a whole number of 0 to 10000000") ∷ a_name
    ∷ any_word (codes "VALUE, which is 0, 1, x or X") ∷ line_end ∷ []

abbrev pub schedule_forms : List (List Slot)
schedule_forms =
    (fixed (codes "advance") ∷ a_name ∷ line_end ∷ []) ∷ (fixed (codes "deliver") ∷ a_name ∷ a_place ∷ line_end ∷ []) ∷ []

abbrev pub horizon_row : List Slot
horizon_row = fixed (codes "%nullsim") ∷ numeral (codes "the horizon, a whole number of 0 to 10000000") ∷ line_end ∷ []

-- ---- which of them a line of a text may have

-- the words are those of the version line
abbrev pub is_version_line : List (List ℕ) → Bool
is_version_line (timing ∷ version ∷ two ∷ []) =
    bytes_eq timing (codes "timing") && (bytes_eq version (codes "version") && bytes_eq two (codes "2"))
is_version_line words = false

-- the first line with words says which version a delay text has
abbrev pub delay_forms : ℕ → List (ℕ × List ℕ) → List (List Slot)
delay_forms line [] = first_row ∷ []
delay_forms line ((first, code) ∷ lines) =
    if first == line then version_row ∷ first_row ∷ []
    else if is_version_line (words_of code) then second_forms
    else first_row ∷ []

-- of a deck only the first line has a form
abbrev pub deck_forms : ℕ → List (List Slot)
deck_forms line = if line == 1 then horizon_row ∷ [] else []

-- of the line with this number in a text
abbrev pub forms_of : Subject → ℕ → List ℕ → List (List Slot)
forms_of Bench line text = bench_forms
forms_of Delays line text = delay_forms line (code_lines text)
forms_of Stimuli line text = stimulus_row ∷ []
forms_of Schedule line text = schedule_forms
forms_of Deck line text = deck_forms line
forms_of other line text = []
