-- The name and the line of a fault of a schedule.
use Rattle.std.specs.Prelude.{ℕ, List, codes}
use Rattle.cmb_events.specs.declared.schedule_fault.ScheduleFault.{ScheduleFault}
use Rattle.cmb_events.specs.declared.schedule_fault.ScheduleFault.TheVariants.{TooLong, BadLine, UnknownNet, BadPin, TooManyEvents, Memory}

-- the line of a fault, or 0 for one without a line
abbrev pub line_of : ScheduleFault → ℕ
line_of (BadLine line) = line
line_of (UnknownNet line) = line
line_of (BadPin line) = line
line_of other = 0

abbrev pub name_of : ScheduleFault → List ℕ
name_of TooLong = codes "TooLong"
name_of (BadLine line) = codes "BadLine"
name_of (UnknownNet line) = codes "UnknownNet"
name_of (BadPin line) = codes "BadPin"
name_of TooManyEvents = codes "TooManyEvents"
name_of Memory = codes "Memory"
