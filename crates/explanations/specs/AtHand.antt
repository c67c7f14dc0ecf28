-- The message about a fault that occurred: the line of its text; a text of another kind; the word at fault; the system's message;
-- and what else is known of this fault, or if nothing is, what it means and what is needed.
use Rattle.std.specs.Prelude.{ℕ, ◌==◌, if◌then◌else◌, List, [], ◌++◌, flat_map, codes, decimal, option_and_then, Option, None, Some}
use Rattle.explanations.specs.declared.explanation.Explanation.{Explanation}
use Rattle.mistakes.specs.declared.subject.Subject.{Subject}
use Rattle.explanations.specs.declared.table.Table.{Table}
use Rattle.explanations.specs.AtFault.{at_fault, word_told}
use Rattle.mistakes.specs.Corrected.{corrected}
use Rattle.mistakes.specs.Lines.{line_at, unless_empty}
use Rattle.explanations.specs.Excerpt.{excerpt}
use Rattle.explanations.specs.Foreign.{foreign_text}
use Rattle.explanations.specs.OtherParts.{is_table_at_fault, part_at_fault}
use Rattle.mistakes.specs.Places.{misplaced}
use Rattle.explanations.specs.Suggestion.{suggestion}
use Rattle.mistakes.specs.Subjects.{subject_number, title_of}
use Rattle.explanations.specs.Explained.{is_called, meaning_line, wanted_line}
use Rattle.texts.specs.Text.{is_empty}

-- ---- what it means

abbrev pub hint_of : Subject → Explanation → List ℕ
hint_of subject one = meaning_line (title_of subject) one ++ wanted_line one

-- what the fault with a name means, and what is needed
abbrev pub hint_if_called : Subject → List ℕ → Explanation → List ℕ
hint_if_called subject name one = (if is_called name one then hint_of subject one else [])

-- in the table of its subject
abbrev pub hints_in : Subject → List ℕ → Table → List ℕ
hints_in subject name table =
    (if subject_number table.subject == subject_number subject then flat_map (hint_if_called subject name) table.explanations.now else [])

-- the system's message about a failed read or write, if any
abbrev pub reason_line : Option (List ℕ) → List ℕ
reason_line reason = word_told (codes "system error: ") reason

-- a number that is out of its range, or conflicts with another
abbrev pub number_line : Option ℕ → List ℕ
number_line None = []
number_line (Some number) = codes "given: " ++ decimal number ++ codes "\n"

-- a fault that occurred: its subject, its name and its line, and, if known, the text at fault, the word and the number at fault
-- that no text contains, the system's message, and the circuit's text
pub record FaultView : Type 0 where
  pub subject : Subject
  pub name : List ℕ
  pub line : ℕ
  pub text : Option (List ℕ)
  pub word : Option (List ℕ)
  pub number : Option ℕ
  pub reason : Option (List ℕ)
  pub circuit : Option (List ℕ)

-- a corrected line
abbrev pub corrected_at : FaultView → List ℕ
corrected_at fault = corrected fault.subject fault.name fault.line fault.text fault.circuit

-- or else a near name
abbrev pub corrected_or_name : FaultView → List ℕ
corrected_or_name fault =
    unless_empty (corrected_at fault)
    (suggestion fault.subject fault.name fault.line fault.text fault.word fault.circuit)

-- the line at fault
abbrev pub faulty_line : FaultView → Option (List ℕ)
faulty_line fault = option_and_then (line_at fault.line) fault.text

-- the gate that a look-up table is, as a corrected line
unfoldable pub gate_of_table : FaultView → List ℕ
gate_of_table fault = if is_table_at_fault fault.subject (faulty_line fault) then corrected_at fault else []

-- what to write instead of a part that there isn't, or else one of these
abbrev pub part_or_name : FaultView → List ℕ
part_or_name fault =
    let part = part_at_fault fault.subject fault.name (faulty_line fault) in
    if is_empty part then corrected_or_name fault else part ++ gate_of_table fault

-- what is known of this fault: the place at which its line stops having a form, and what may have been meant
abbrev pub sharper : FaultView → List ℕ
sharper fault = misplaced fault.subject fault.name fault.line fault.text ++ part_or_name fault

-- if nothing is known, what the fault means and what is needed
abbrev pub sharper_or_hints : List Table → FaultView → List ℕ
sharper_or_hints tables fault = unless_empty (sharper fault) (flat_map (hints_in fault.subject fault.name) tables)

-- the message about a fault of a text of the kind that is read
abbrev pub told_of_own_kind : List Table → FaultView → List ℕ
told_of_own_kind tables fault =
    at_fault fault.subject fault.name fault.line fault.text
    ++ word_told (codes "given: ") fault.word
    ++ number_line fault.number
    ++ reason_line fault.reason
    ++ sharper_or_hints tables fault

-- the message about a text of another kind, if it looks to be of one
abbrev pub told_of_kind : List Table → FaultView → List ℕ
told_of_kind tables fault =
    unless_empty (foreign_text fault.subject fault.name fault.line fault.text fault.circuit) (told_of_own_kind tables fault)

-- the whole message
abbrev pub told_at_hand : List Table → FaultView → List ℕ
told_at_hand tables fault =
    excerpt fault.line (option_and_then (line_at fault.line) fault.text)
    ++ told_of_kind tables fault
