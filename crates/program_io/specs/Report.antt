-- What the program prints with an answer, or for the fault with which it ended.
use Rattle.std.specs.Prelude.{◌≡◌, ℕ, List, [], Option, Result, OnErr, OnOk}
use Rattle.std.specs.Io.KnownBytes.{Appends}
use Rattle.vcd_dump.specs.declared.fault.DumpFault.{DumpFault}
use Rattle.event_trace.specs.Lines.{counts_line}
use Rattle.texts.specs.Written.{AppendsPrefix}
use Rattle.program_io.specs.declared.exit.Exit.{Exit}
use Rattle.program_io.specs.declared.outcome.Outcome.{Outcome}
use Rattle.program_io.specs.declared.outcome.Outcome.TheVariants.{Done, Counted, Differing}
use Rattle.program_io.specs.declared.program_fault.ProgramFault.{ProgramFault}
use Rattle.prepared_runs.specs.RunTexts.{Names}
use Rattle.program_io.specs.Place.{fault_line}
use Rattle.program_io.specs.Status.{status_of}

-- the whole text was written; after a fault, a prefix of it
abbrev pub IsWritten : {A : Type 0} → Option (List ℕ) → Option (List ℕ) → List ℕ → Result A DumpFault → Type 0
IsWritten old new text written = OnOk written (Appends old new text) × OnErr written (AppendsPrefix old new text)

-- what is printed with an answer: the line of counts, if requested
abbrev pub outcome_text : Outcome → List ℕ
outcome_text Done = []
outcome_text (Counted counts) = counts_line counts
outcome_text Differing = []

-- the fault's status, and its line: whole, or a prefix of it if it wasn't written
abbrev pub Reports : Names → ProgramFault → Option (List ℕ) → Option (List ℕ) → Exit → Type 0
Reports names fault old new exit = (exit.status ≡ status_of fault) × IsWritten old new (fault_line names fault) exit.written

-- the program exits so, and its caller learns the status alone
abbrev pub WithStatus : ℕ → (Exit → Type 0) → Type 0
WithStatus status Ends = (exit : Exit) × (exit.status ≡ status) × Ends exit
