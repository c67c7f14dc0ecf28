-- The name of a fault of drives.
use Rattle.std.specs.Prelude.{ℕ, List, codes}
use Rattle.drawn_stimuli.specs.declared.fault.DriveFault.{DriveFault}
use Rattle.drawn_stimuli.specs.declared.fault.DriveFault.TheVariants.{BadEvery, NotAnInput, Twice, BadHalf, BadPulse, TooWide, TooLong, Memory}

abbrev pub name_of : DriveFault → List ℕ
name_of BadEvery = codes "BadEvery"
name_of (NotAnInput place) = codes "NotAnInput"
name_of (Twice place) = codes "Twice"
name_of (BadHalf place) = codes "BadHalf"
name_of (BadPulse place) = codes "BadPulse"
name_of (TooWide place) = codes "TooWide"
name_of TooLong = codes "TooLong"
name_of Memory = codes "Memory"
