-- The suggestion after the place at which a line stops having a form: a line that its reader takes.
use Rattle.std.specs.Prelude.{ℕ, ◌==◌, not, nat_lt, if◌then◌else◌, List, [], ◌∷◌, filter, length, codes, unwrap_or, Option, None, Some}
use Rattle.std.specs.Option.{option_map_or}
use Rattle.mistakes.specs.declared.subject.Subject.{Subject}
use Rattle.mistakes.specs.declared.subject.Subject.TheVariants.{Bench, Delays, Stimuli, Schedule, Deck}
use Rattle.mistakes.specs.BenchCorrections.{bench_corrections}
use Rattle.mistakes.specs.BenchFormulas.{formula_told}
use Rattle.mistakes.specs.BenchLines.{is_among}
use Rattle.mistakes.specs.BenchLists.{ended_told, list_told}
use Rattle.mistakes.specs.BenchNames.{spaced_told}
use Rattle.mistakes.specs.BenchStatements.{dollar_told, part_told, two_told}
use Rattle.mistakes.specs.Corrections.{Correction, Refused, is_shown_whole, told_by}
use Rattle.mistakes.specs.Lines.{line_at, unless_empty}
use Rattle.mistakes.specs.Forms.{forms_of}
use Rattle.mistakes.specs.TimingCorrections.{delay_corrections, schedule_corrections, stimulus_corrections}
use Rattle.mistakes.specs.TimingLines.{deck_marker_told, marker_told, pins_told, point_told, respelled_right, respelled_told, right_told, sign_told, trace_told, unit_told}
use Rattle.mistakes.specs.Tokens.{bytes_of, tokens_of}
use Rattle.texts.specs.Text.{code_of}

-- the first of some texts that isn't empty
abbrev pub first_told : List (List ℕ) → List ℕ
first_told [] = []
first_told (text ∷ texts) = unless_empty text (first_told texts)

-- a .bench line: its commas, its end, what comes after it, or its dollar signs
abbrev pub statement_corrected : Refused → List ℕ
statement_corrected refused =
    first_told (list_told refused ∷ ended_told refused ∷ two_told refused ∷ part_told refused ∷ dollar_told refused ∷ [])

-- or else its marks, its first word, what a marker is, the only correction that applies, or its names
abbrev pub words_corrected : Refused → List ℕ
words_corrected refused =
    first_told
    (formula_told refused ∷ respelled_told refused ∷ marker_told refused ∷ told_by bench_corrections refused ∷ spaced_told refused ∷ [])

abbrev pub bench_corrected : Refused → List ℕ
bench_corrected refused = unless_empty (statement_corrected refused) (words_corrected refused)

-- a line of another text: a point or a sign in its ticks, or what is said of markers
unfoldable pub ticks_told : Refused → List ℕ
ticks_told refused = first_told (point_told refused ∷ sign_told refused ∷ marker_told refused ∷ [])

-- or else the only correction that applies, its units or its first word, one of these, or the pins of its net
abbrev pub timing_corrected : List Correction → Refused → List ℕ
timing_corrected table refused =
    first_told (told_by table refused ∷ unit_told refused ∷ respelled_right refused ∷ ticks_told refused ∷ pins_told refused ∷ [])

abbrev pub refused_corrected : Refused → List ℕ
refused_corrected refused = by refused.subject
  where
    by : Subject → List ℕ
    by Bench = bench_corrected refused
    by Delays = timing_corrected delay_corrections refused
    by Stimuli = timing_corrected stimulus_corrections refused
    by Schedule = unless_empty (trace_told refused) (timing_corrected schedule_corrections refused)
    by Deck = unless_empty (respelled_told refused) (deck_marker_told refused)
    by other = []

-- the text that defines the nets
abbrev pub circuit_of : Subject → List ℕ → Option (List ℕ) → List ℕ
circuit_of Bench text circuit = text
circuit_of other text circuit = unwrap_or circuit []

-- a line, of which no form takes these words
abbrev pub refused_line : Subject → ℕ → List ℕ → Option (List ℕ) → List (List ℕ) → Refused
refused_line subject number text circuit words = record {
  subject = subject;
  line = number;
  forms = forms_of subject number text;
  circuit = circuit_of subject text circuit;
  words = words;
}

-- of at most a hundred bytes and a line feed
abbrev pub if_short : List ℕ → List ℕ
if_short text = if nat_lt 101 (length text) then [] else text

-- for a line without its comment, if it is shown whole. The marks of .bench lines are in no name, so the lines of all texts are
-- cut at them
unfoldable pub code_corrected : Subject → ℕ → List ℕ → Option (List ℕ) → List ℕ → List ℕ
code_corrected subject number text circuit code =
    if is_shown_whole code then
    if_short (refused_corrected (refused_line subject number text circuit (bytes_of (tokens_of Bench code))))
    else []

-- the line without the # of its comment, if its reader takes it so
abbrev pub without_hashes : List ℕ → List ℕ
without_hashes line = filter (λ byte. not (byte == 35)) line

abbrev pub right_line : Refused → List ℕ
right_line refused = right_told refused (codes "write ") refused.words

unfoldable pub uncommented : Subject → ℕ → List ℕ → Option (List ℕ) → List ℕ → List ℕ
uncommented subject number text circuit code =
    if is_shown_whole code then
    if_short (right_line (refused_line subject number text circuit (bytes_of (tokens_of Bench code))))
    else []

abbrev pub line_corrected : Subject → ℕ → List ℕ → Option (List ℕ) → List ℕ → List ℕ
line_corrected subject number text circuit line =
    unless_empty (code_corrected subject number text circuit (code_of line))
    (uncommented subject number text circuit (without_hashes line))

-- a line without a form, and a .bench line with a form, but without a gate word
abbrev pub of_corrections : List (List ℕ)
of_corrections = codes "BadLine" ∷ codes "BadDeck" ∷ codes "UnknownGate" ∷ []

-- for the line with a number, if the fault is one of these, and if the text is known and has the line
unfoldable pub corrected : Subject → List ℕ → ℕ → Option (List ℕ) → Option (List ℕ) → List ℕ
corrected subject name number None circuit = []
corrected subject name number (Some text) circuit =
    if is_among of_corrections name then
    option_map_or (λ line. line_corrected subject number text circuit line) (line_at number text) []
    else []
