-- The subjects of faults.
use Rattle.std.specs.Prelude.{ℕ, List, [], codes}
use Rattle.mistakes.specs.declared.subject.Subject.{Subject}
use Rattle.mistakes.specs.declared.subject.Subject.TheVariants.{Bench, Delays, Stimuli, Schedule, Deck, Settings, Columns, Drives, Ticks, Names, Program}

-- subjects by number
abbrev pub subject_number : Subject → ℕ
subject_number Bench = 0
subject_number Delays = 1
subject_number Stimuli = 2
subject_number Schedule = 3
subject_number Deck = 4
subject_number Settings = 5
subject_number Columns = 6
subject_number Drives = 7
subject_number Ticks = 8
subject_number Names = 9
subject_number Program = 10

-- the title of a subject
abbrev pub title_of : Subject → List ℕ
title_of Bench = codes ".bench text"
title_of Delays = codes "delay text"
title_of Stimuli = codes "stimulus text"
title_of Schedule = codes "schedule text"
title_of Deck = codes "deck"
title_of Settings = codes "settings"
title_of Columns = codes "columns of draw"
title_of Drives = codes "drives of stimuli"
title_of Ticks = codes "ticks of diff"
title_of Names = codes "net names in arguments"
title_of Program = codes "reading and writing"

-- the circuit that its examples are for
abbrev pub example_circuit : Subject → List ℕ
example_circuit Delays = codes " with INPUT(a), y = NAND(a, q), q = DFF(y)"
example_circuit Stimuli = codes " with INPUT(a), y = NAND(a, q), q = DFF(y)"
example_circuit Schedule = codes " with INPUT(a), y = NAND(a, q), q = DFF(y)"
example_circuit other = []
