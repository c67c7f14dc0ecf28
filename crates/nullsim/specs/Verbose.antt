-- What is printed for a fault after its line.
use Rattle.std.specs.Prelude.{◌≡◌, ℕ, List, option_and_then, option_map, Option, None, Some, IfSome}
use denote.Ref.{Bor}
use Rattle.mistakes.specs.declared.subject.Subject.{Subject}
use Rattle.mistakes.specs.declared.subject.Subject.TheVariants as of
use Rattle.explanations.specs.declared.table.Table.{Table}
use Rattle.explanations.specs.AtHand.{told_at_hand}
use Rattle.prepared_runs.specs.declared.fault.SimFault.{SimFault}
use Rattle.prepared_runs.specs.declared.fault.SimFault.TheVariants as sim
use Rattle.program_io.specs.declared.exit.Exit.{Exit}
use Rattle.program_io.specs.declared.program_fault.ProgramFault.{ProgramFault}
use Rattle.program_io.specs.declared.program_fault.ProgramFault.TheVariants.{Read, Deck, Run, Columns, Drives, Compared, Output, Memory, Flush}
use Rattle.program_io.specs.Answers.{AnswerEndsBy, IsNoRead}
use Rattle.program_io.specs.Place.{fault_line}
use Rattle.program_io.specs.ProgramFaults.{line_of, name_of, side_of}
use Rattle.program_io.specs.Status.{status_of}
use Rattle.command_line.specs.declared.order.Order.{Order}
use Rattle.program_io.specs.declared.order_texts.OrderTexts.{OrderTexts}
use Rattle.command_line.specs.Sources.{ReadTexts}
use Rattle.program_io.specs.Options.{texts_on}
use Rattle.program_io.specs.OrderAnswer.{IsAnswerTo}
use Rattle.command_line.specs.Orders.{names_of}
use Rattle.program_io.specs.Readings.{StopsBy, files_of}
use Rattle.nullsim.specs.AtFault.{name_at_fault, number_at_fault}
use Rattle.nullsim.specs.Command.{Streams}
use Rattle.nullsim.specs.Parts.{AreWritten}
use Rattle.wave_diff.specs.declared.comparison.Side.TheVariants as sides

-- the subject of a fault of a run
abbrev pub subject_of_run : SimFault → Subject
subject_of_run (sim.Setting fault) = of.Settings
subject_of_run (sim.Bench fault) = of.Bench
subject_of_run (sim.Timing fault) = of.Delays
subject_of_run (sim.Stimulus fault) = of.Stimuli
subject_of_run (sim.Schedule fault) = of.Schedule
subject_of_run sim.UnknownNet = of.Names
subject_of_run (sim.Dump fault) = of.Program
subject_of_run sim.Memory = of.Program

abbrev pub subject_of : ProgramFault → Subject
subject_of (Deck fault) = of.Deck
subject_of (Run side fault) = subject_of_run fault
subject_of (Columns fault) = of.Columns
subject_of (Drives fault) = of.Drives
subject_of (Compared fault) = of.Ticks
subject_of (Read name) = of.Program
subject_of (Output fault) = of.Program
subject_of Memory = of.Program
subject_of Flush = of.Program

-- ---- what is known of a fault

-- what is lent, if anything is
abbrev pub if_given : {A : Type 0} → Option (Bor A) → Option A
if_given lent = option_map (λ thing. thing.now) lent

-- what is known at the end: the texts of the order, once they are read, and the system's message on a read or a write that failed
pub record Remembered : Type 0 where
  pub texts : Option OrderTexts
  pub said : Option (List ℕ)

-- the system's message on this fault, if any
abbrev pub reason_of : Option (List ℕ) → ProgramFault → Option (List ℕ)
reason_of said (Read name) = said
reason_of said (Output fault) = said
reason_of said Flush = said
reason_of said other = None

-- the text of a run for which it is refused
abbrev pub text_in_run : ReadTexts → SimFault → Option (List ℕ)
text_in_run texts (sim.Bench fault) = Some texts.bench.items
text_in_run texts (sim.Timing fault) = Some texts.delays.items
text_in_run texts (sim.Stimulus fault) = Some texts.stimuli.items
text_in_run texts (sim.Schedule fault) = Some texts.schedule.items
text_in_run texts other = None

-- the text at fault
abbrev pub text_at_fault : ProgramFault → OrderTexts → Option (List ℕ)
text_at_fault (Run side fault) texts = text_in_run (texts_on texts side) fault
text_at_fault other texts = None

-- the circuit of the run at fault, or the one whose inputs are driven
abbrev pub circuit_at_fault : ProgramFault → OrderTexts → Option (List ℕ)
circuit_at_fault (Run side fault) texts = Some (texts_on texts side).bench.items
circuit_at_fault (Drives fault) texts = Some (texts_on texts sides.First).bench.items
circuit_at_fault other texts = None

-- what is printed for the fault of an order, by what is known
abbrev pub explanation : List Table → Remembered → Order → ProgramFault → List ℕ
explanation tables remembered order fault = told_at_hand tables (record {
  subject = subject_of fault;
  name = name_of fault;
  line = line_of fault;
  text = option_and_then (text_at_fault fault) remembered.texts;
  word = option_and_then (name_at_fault order fault) remembered.texts;
  number = number_at_fault order fault;
  reason = reason_of remembered.said fault;
  circuit = option_and_then (circuit_at_fault fault) remembered.texts;
})

-- ---- how an order ends with a fault

module _ (tables : List Table) (texts : Option OrderTexts) (order : Order) (fault : ProgramFault) (old new : Option (List ℕ)) (exit : Exit) where
  -- its status; and its line, followed by what is printed for it with this message of the system, or a prefix of each
  abbrev pub ReportsVerbosely : Option (List ℕ) → Type 0
  ReportsVerbosely said =
      (exit.status ≡ status_of fault)
      × AreWritten old new (fault_line (names_of order (side_of fault)) fault) (explanation tables (record { texts = texts; said = said }) order fault) exit.written

module _ (tables : List Table) (order : Order) (old new : Streams) (exit : Exit) where
  -- a file couldn't be read: nothing was written, and that was reported and explained, with the system's message as the texts know it
  abbrev pub OrderUnreadVerbosely : Option (List ℕ) → Type 0
  OrderUnreadVerbosely known =
      (fault : ProgramFault) × StopsBy (files_of order) old.readings new.readings fault × (new.out ≡ old.out)
      × ((said : Option (List ℕ)) × IfSome said (λ words. IfSome known (λ all. words ≡ all))
      × ReportsVerbosely tables None order fault old.err new.err exit said)

  -- it ended, after its files were read, with a fault that was reported and explained by these texts and by the system's message on a write
  abbrev pub AnswerBrokenVerbosely : OrderTexts → Type 0
  AnswerBrokenVerbosely texts =
      (fault : ProgramFault) × IsNoRead fault × AnswerEndsBy (IsAnswerTo order texts) old.out new.out fault
      × ((said : Option (List ℕ)) × ReportsVerbosely tables (Some texts) order fault old.err new.err exit said)
