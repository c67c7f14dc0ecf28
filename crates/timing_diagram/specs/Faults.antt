-- The names of faults.
use Rattle.std.specs.Prelude.{ℕ, List, codes}
use Rattle.timing_diagram.specs.declared.fault.ColumnsFault.{ColumnsFault}
use Rattle.timing_diagram.specs.declared.fault.ColumnsFault.TheVariants.{NoStep, Backwards, PastHorizon, TooManyColumns, TooManyChanges}

abbrev pub name_of : ColumnsFault → List ℕ
name_of NoStep = codes "NoStep"
name_of Backwards = codes "Backwards"
name_of PastHorizon = codes "PastHorizon"
name_of TooManyColumns = codes "TooManyColumns"
name_of TooManyChanges = codes "TooManyChanges"
