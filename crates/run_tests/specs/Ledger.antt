-- Texts that record the requests to them.
use Rattle.std.specs.Prelude.{ℕ, map, option_map, Option}
use Rattle.std.specs.declared.vec.Vec.{Vec}
use Rattle.std.specs.declared.alloc.Global.{Global}
use Rattle.program_io.specs.declared.input.ReadFault.{ReadFault}
use Rattle.program_io.specs.Readings.{KnownReadings, Reading}

-- a name, and why its text couldn't be read, if it couldn't
abbrev pub Note : Type 0
Note = Vec ℕ Global × Option ReadFault

abbrev pub seen_note : Note → Reading
seen_note (name, fault) = record { name = name.items; fault = fault }

abbrev pub seen_notes : Option (Vec Note Global) → KnownReadings
seen_notes notes = option_map (λ kept. map seen_note kept.items) notes
