-- Exit statuses.
use Rattle.std.specs.Prelude.{ℕ}
use Rattle.program_io.specs.declared.outcome.Outcome.{Outcome}
use Rattle.program_io.specs.declared.outcome.Outcome.TheVariants.{Done, Counted, Differing}
use Rattle.program_io.specs.declared.program_fault.ProgramFault.{ProgramFault}
use Rattle.program_io.specs.declared.program_fault.ProgramFault.TheVariants.{Read, Deck, Run, Columns, Drives, Compared, Output, Memory, Flush}

-- 1 for a refused input, 3 for a failed read or write, 4 for a failed allocation
abbrev pub status_of : ProgramFault → ℕ
status_of (Deck fault) = 1
status_of (Run side fault) = 1
status_of (Columns fault) = 1
status_of (Drives fault) = 1
status_of (Compared fault) = 1
status_of (Read name) = 3
status_of (Output fault) = 3
status_of Flush = 3
status_of Memory = 4

-- 5 if what was compared differs
abbrev pub status_of_outcome : Outcome → ℕ
status_of_outcome Done = 0
status_of_outcome (Counted counts) = 0
status_of_outcome Differing = 5
