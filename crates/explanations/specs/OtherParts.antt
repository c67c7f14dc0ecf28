-- Parts of circuits that other tools have, and nullsim hasn't.
use Rattle.std.specs.Prelude.{ℕ, ◌||◌, ◌&&◌, nat_lt, Bool, false, if◌then◌else◌, List, [], ◌∷◌, ◌++◌, length, take, codes, bytes_eq, Option, None, Some, unwrap_or}
use Rattle.std.specs.List.{list_any}
use Rattle.std.specs.Option.{is_none, option_map_or}
use Rattle.std.specs.Str.{str_eq_ignore_ascii_case}
use Rattle.explanations.specs.declared.other_parts.OtherPart.{OtherPart}
use Rattle.explanations.specs.declared.other_parts.OtherPart.TheVariants.{Multiplexer, Latch, WithReset, ClockPin, Table, Zero, One}
use Rattle.texts.specs.Text.{code_of}
use Rattle.mistakes.specs.declared.subject.Subject.{Subject}
use Rattle.mistakes.specs.declared.subject.Subject.TheVariants.{Bench}
use Rattle.mistakes.specs.BenchLines.{is_assignment, nth_name}
use Rattle.explanations.specs.Excerpt.{shown_line}
use Rattle.explanations.specs.Foreign.{begins_with}

-- ---- words, in any case of their letters

abbrev pub is_called_one_of : List (List ℕ) → List ℕ → Bool
is_called_one_of names word = list_any (str_eq_ignore_ascii_case word) names

abbrev pub begins_called : List ℕ → List ℕ → Bool
begins_called word beginning = str_eq_ignore_ascii_case (take (length beginning) word) beginning

abbrev pub zero_words : List (List ℕ)
zero_words = codes "gnd" ∷ codes "vss" ∷ codes "tie0" ∷ []

abbrev pub one_words : List (List ℕ)
one_words = codes "vdd" ∷ codes "vcc" ∷ codes "tie1" ∷ []

-- the constant that a word names
abbrev pub constant_of : List ℕ → Option OtherPart
constant_of word =
    if is_called_one_of zero_words word then Some Zero
    else if is_called_one_of one_words word then Some One
    else None

abbrev pub constant_or_digit : List ℕ → Option OtherPart
constant_or_digit word =
    if bytes_eq word (codes "0") then Some Zero
    else if bytes_eq word (codes "1") then Some One
    else constant_of word

-- ---- by the fault

-- a flip-flop with more than a data pin, such as DFFR
abbrev pub is_with_reset : List ℕ → Bool
is_with_reset word = (begins_called word (codes "DFF") && nat_lt 3 (length word)) || begins_called word (codes "SDFF")

-- what a word that is no gate word names
abbrev pub part_of_word : List ℕ → Option OtherPart
part_of_word word =
    if begins_called word (codes "MUX") then Some Multiplexer
    else if is_called_one_of (codes "LATCH" ∷ codes "DLATCH" ∷ []) word then Some Latch
    else if is_with_reset word then Some WithReset
    else constant_of word

-- `NAME = LUT 0x8 (..)`
abbrev pub is_table : List ℕ → Bool
is_table code =
    is_assignment code && (is_called_one_of (codes "LUT" ∷ []) (unwrap_or (nth_name 1 code) []) && begins_with (unwrap_or (nth_name 2 code) []) (codes "0x"))

-- the word of `NAME = WORD` alone, or nothing
abbrev pub lone_word : List ℕ → List ℕ
lone_word code = if is_assignment code && is_none (nth_name 2 code) then unwrap_or (nth_name 1 code) [] else []

abbrev pub part_of_line : List ℕ → Option OtherPart
part_of_line code = if is_table code then Some Table else constant_or_digit (lone_word code)

-- a flip-flop with several pins
abbrev pub clock_pin : List ℕ → Option OtherPart
clock_pin code = if is_called_one_of (codes "DFF" ∷ []) (unwrap_or (nth_name 1 code) []) then Some ClockPin else None

-- the part in a line without its comment, by the name of its fault
abbrev pub other_part : List ℕ → List ℕ → Option OtherPart
other_part name code =
    if bytes_eq name (codes "UnknownGate") then part_of_word (unwrap_or (nth_name 1 code) [])
    else if bytes_eq name (codes "BadLine") then part_of_line code
    else if bytes_eq name (codes "BadArity") then clock_pin code
    else None

-- ---- what to write instead

abbrev pub stimulus_text : List ℕ → List ℕ → List ℕ
stimulus_text net value =
    codes ") in place of the line, and the stimulus 0 " ++ shown_line net ++ codes " " ++ value ++ codes "\n"

abbrev pub input_text : List ℕ → List ℕ
input_text net = codes "an input stands for one: INPUT(" ++ shown_line net

-- the input to write instead of a constant, with its stimulus
abbrev pub constant_text : List ℕ → List ℕ → List ℕ
constant_text net value = codes "there are no constants\n" ++ input_text net ++ stimulus_text net value

abbrev pub part_text : OtherPart → List ℕ → List ℕ
part_text Multiplexer net =
    codes "there is no multiplexer; these gates, each on its line, show a where s is 0, and b where s is 1:\nn = NOT(s), p = AND(a, n), r = AND(b, s), y = OR(p, r)\n"
part_text Latch net =
    codes "there is no latch; these gates, each on its line, follow d while g is 1, and hold while it is 0:\nn = NOT(d), s = NAND(d, g), r = NAND(n, g), q = NAND(s, m), m = NAND(r, q)\n"
part_text WithReset net =
    codes "a DFF has neither set, reset nor enable: build them with gates before its pin\nan init line of a delay text gives its first value\n"
part_text ClockPin net =
    codes "a DFF takes one pin, the data; its clock is implicit\n--period N gives it, or a clock line of a delay text of version 2\n"
part_text Table net = codes "there are no look-up tables; ABC writes gates by write_bench -l\n"
part_text Zero net = constant_text net (codes "0")
part_text One net = constant_text net (codes "1")

-- of a line of a .bench text with a fault
abbrev pub part_line : List ℕ → List ℕ → List ℕ
part_line name code = option_map_or (λ part. part_text part (unwrap_or (nth_name 0 code) [])) (other_part name code) []

-- of a line, if the text is a circuit and has the line
unfoldable pub part_at_fault : Subject → List ℕ → Option (List ℕ) → List ℕ
part_at_fault Bench name (Some line) = part_line name (code_of line)
part_at_fault subject name line = []

-- whether the line asks for a look-up table
abbrev pub is_table_at_fault : Subject → Option (List ℕ) → Bool
is_table_at_fault Bench (Some line) = is_table (code_of line)
is_table_at_fault subject line = false
