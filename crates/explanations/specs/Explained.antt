-- The explanations of faults.
use Rattle.std.specs.Prelude.{◌≡◌, ℕ, Bool, List, [], ◌∷◌, ◌++◌, map, if◌then◌else◌, flat_map, codes, decimal, Option, None, Some}
use Rattle.std.specs.List.{list_any}
use Rattle.std.specs.Str.{str_eq_ignore_ascii_case}
use Rattle.explanations.specs.declared.explanation.Explanation.{Explanation}
use Rattle.explanations.specs.declared.explanation.Example.{Example}
use Rattle.mistakes.specs.declared.subject.Subject.{Subject}
use Rattle.mistakes.specs.Subjects.{example_circuit, title_of}
use Rattle.explanations.specs.declared.table.Table.{Table}
use Rattle.mistakes.specs.declared.subject.Subject.TheVariants.{Bench, Delays, Stimuli, Schedule, Deck, Settings, Columns, Drives, Ticks, Names, Program}

-- an example, if any: the faulty text with its line, and the corrected text
abbrev pub example_line : List ℕ → ℕ → List ℕ
example_line circuit number = codes "example" ++ circuit ++ codes ", refused at line " ++ decimal number ++ codes ":\n"

abbrev pub both_texts : Example → List ℕ
both_texts example = example.faulty.now ++ codes "corrected:\n" ++ example.mended.now

abbrev pub example_text : List ℕ → Option Example → List ℕ
example_text circuit None = []
example_text circuit (Some example) = example_line circuit example.line ++ both_texts example

-- the lines of its meaning and of what is needed
abbrev pub meaning_line : List ℕ → Explanation → List ℕ
meaning_line title one = one.name.now ++ codes " (" ++ title ++ codes "): " ++ one.meaning.now ++ codes "\n"

abbrev pub wanted_line : Explanation → List ℕ
wanted_line one = codes "needed: " ++ one.wanted.now ++ codes "\n"

-- the whole explanation of a fault of a subject
abbrev pub explanation_of : Subject → Explanation → List ℕ
explanation_of subject one =
    meaning_line (title_of subject) one ++ wanted_line one ++ example_text (example_circuit subject) one.example

-- the explanation is of the fault with this name, in any case of its letters
abbrev pub is_called : List ℕ → Explanation → Bool
is_called name one = str_eq_ignore_ascii_case one.name.now name

-- ---- the explanations of the faults with a name

-- of one fault of a subject: empty if it has another name
abbrev pub told_if_called : Subject → List ℕ → Explanation → List ℕ
told_if_called subject name one = (if is_called name one then explanation_of subject one else [])

-- of the faults of one subject, which has these explanations
abbrev pub told_of : Subject → List ℕ → List Explanation → List ℕ
told_of subject name table = flat_map (told_if_called subject name) table

abbrev pub told_by : List ℕ → Table → List ℕ
told_by name table = told_of table.subject name table.explanations.now

-- of the faults of each table, in order
abbrev pub explained : List Table → List ℕ → List ℕ
explained tables name = flat_map (told_by name) tables

-- the table has a fault with this name
abbrev pub has_called : List ℕ → Table → Bool
has_called name table = list_any (is_called name) table.explanations.now

-- ---- the names of all faults

abbrev pub name_behind : Explanation → List ℕ
name_behind one = codes " " ++ one.name.now

-- a line for a table, with the names of its faults
abbrev pub names_line : Table → List ℕ
names_line table = title_of table.subject ++ codes ":" ++ flat_map name_behind table.explanations.now ++ codes "\n"

abbrev pub all_names : List Table → List ℕ
all_names tables = flat_map names_line tables

-- ---- the tables of the program

abbrev pub all_subjects : List Subject
all_subjects = Bench ∷ Delays ∷ Stimuli ∷ Schedule ∷ Deck ∷ Settings ∷ Columns ∷ Drives ∷ Ticks ∷ Names ∷ Program ∷ []

-- one for each subject, in this order
abbrev pub AreTables : List Table → Type 0
AreTables tables = map (λ (table : Table). table.subject) tables ≡ all_subjects
