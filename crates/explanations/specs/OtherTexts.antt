-- Refused lines that have a form of another text that nullsim reads.
use Rattle.std.specs.Prelude.{ℕ, ◌==◌, ◌||◌, ◌&&◌, not, Bool, false, if◌then◌else◌, List, [], ◌∷◌, ◌++◌, codes, is_some, unwrap_or, option_and_then, Option, None, Some}
use Rattle.std.specs.List.{list_any}
use Rattle.std.specs.Option.{option_map_or}
use Rattle.std.specs.Str.{str_eq_ignore_ascii_case}
use Rattle.mistakes.specs.declared.subject.Subject.{Subject}
use Rattle.mistakes.specs.declared.subject.Subject.TheVariants.{Bench, Delays, Stimuli, Schedule, Deck}
use Rattle.mistakes.specs.BenchLines.{is_among, is_assignment, is_net, nth_name}
use Rattle.explanations.specs.AtFault.{word_at}
use Rattle.mistakes.specs.Subjects.{subject_number, title_of}
use Rattle.mistakes.specs.Places.{misplaced}
use Rattle.texts.specs.Text.{code_lines, is_empty}

-- ---- the forms

-- as the only line of a text of this kind, it stops nowhere having a form
abbrev pub has_form_in : Subject → List ℕ → Bool
has_form_in kind code = is_empty (misplaced kind (codes "BadLine") 1 (Some code))

abbrev pub values : List (List ℕ)
values = codes "0" ∷ codes "1" ∷ codes "x" ∷ codes "X" ∷ []

-- TICK NAME VALUE
abbrev pub is_stimulus : List ℕ → Bool
is_stimulus code = has_form_in Stimuli code && is_among values (unwrap_or (word_at 2 code) [])

-- ---- the gate whose delay it may be

-- a line of a circuit defines the net by a gate or a flip-flop
abbrev pub drives : List ℕ → ℕ × List ℕ → Bool
drives net line = is_assignment line.1 && is_net (nth_name 0 line.1) net

abbrev pub is_driven : Option (List ℕ) → List ℕ → Bool
is_driven None net = false
is_driven (Some circuit) net = list_any (drives net) (code_lines circuit)

-- NAME TICKS of such a net, or the line of the version, which alone has three words
abbrev pub is_sure_delay : Option (List ℕ) → List ℕ → Bool
is_sure_delay circuit code =
    has_form_in Delays code && (is_some (word_at 2 code) || is_driven circuit (unwrap_or (word_at 0 code) []))

abbrev pub is_port : List ℕ → Bool
is_port word = list_any (str_eq_ignore_ascii_case word) (codes "INPUT" ∷ codes "OUTPUT" ∷ [])

-- only in place of a circuit, where none says which nets there are; INPUT 1 isn't a delay there, but an input without parentheses
abbrev pub may_have_delays : Subject → List ℕ → Bool
may_have_delays Bench code = not (is_port (unwrap_or (word_at 0 code) []))
may_have_delays other code = false

-- ---- the kind of text

-- of several the net decides; any two words may be NAME TICKS if the second is a number, so that comes last
abbrev pub kind_of : Subject → Option (List ℕ) → List ℕ → Option Subject
kind_of subject circuit code =
    if is_sure_delay circuit code then Some Delays
    else if is_stimulus code then Some Stimuli
    else if has_form_in Schedule code then Some Schedule
    else if has_form_in Deck code then Some Deck
    else if has_form_in Bench code then Some Bench
    else if may_have_delays subject code && has_form_in Delays code then Some Delays
    else None

-- another kind than that of the text
abbrev pub other_than : Subject → Subject → Option Subject
other_than subject kind = if subject_number kind == subject_number subject then None else Some kind

abbrev pub other_text : Subject → Option (List ℕ) → List ℕ → Option Subject
other_text subject circuit code = option_and_then (other_than subject) (kind_of subject circuit code)

-- ---- the message about it

-- what is written instead
abbrev pub form_of : Subject → List ℕ
form_of Bench = codes "write a gate as y = NAND(a, b), an input as INPUT(a)\n"
form_of Delays = codes "write a delay as NAME TICKS, such as y 3\n"
form_of Stimuli = codes "write a stimulus as TICK NAME VALUE, such as 10 a 1\n"
form_of Schedule = codes "write a step as advance NAME or deliver NAME PLACE\n"
form_of other = codes "begin with %nullsim and the horizon, such as %nullsim 20\n"

-- where such a text is given
abbrev pub taken_by : Subject → List ℕ
taken_by Bench = codes "--bench takes"
taken_by Delays = codes "--delays takes"
taken_by Stimuli = codes "--stimuli takes"
taken_by Schedule = codes "--schedule takes"
taken_by other = codes "is read from standard input"

unfoldable pub needed_text : Subject → List ℕ
needed_text subject = title_of subject ++ codes " is needed\n" ++ form_of subject

unfoldable pub has_form_text : List ℕ
has_form_text = codes "this has the form of a line of a "

unfoldable pub kind_text : Subject → List ℕ
kind_text kind = title_of kind ++ codes ", which " ++ taken_by kind ++ codes "; a "

abbrev pub other_text_told : Subject → Subject → List ℕ
other_text_told subject kind = has_form_text ++ kind_text kind ++ needed_text subject

-- if the line has a form of one
abbrev pub other_text_line : Subject → Option (List ℕ) → List ℕ → List ℕ
other_text_line subject circuit code = option_map_or (other_text_told subject) (other_text subject circuit code) []
