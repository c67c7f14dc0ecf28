-- The names of faults.
use Rattle.std.specs.Prelude.{ℕ, List, codes}
use Rattle.wave_diff.specs.declared.fault.ComparedFault.{ComparedFault}
use Rattle.wave_diff.specs.declared.fault.ComparedFault.TheVariants.{BadEvery, PastHorizon}

abbrev pub name_of : ComparedFault → List ℕ
name_of BadEvery = codes "BadEvery"
name_of PastHorizon = codes "PastHorizon"
