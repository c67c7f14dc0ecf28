-- The waveforms that a dump is made from.
use Rattle.std.specs.Prelude.{ℕ, ◌+◌, List, [], map, slice_index_or}
use Rattle.logic3.specs.declared.value.Value.TheVariants.{Unknown}
use Rattle.logic3.specs.Wave.{Wave, wave_of}
use Rattle.design.specs.Circuit.{Circuit}
use Rattle.design.specs.Equations.{value_of}

-- the waveform of a net; past the last one it doesn't matter
abbrev pub wave_at : List Wave → ℕ → Wave
wave_at waves net = slice_index_or waves net (record { before = Unknown; changes = [] })

-- what these nets show from tick 0 to the horizon
abbrev pub waves_up_to : Circuit → ℕ → List ℕ → List Wave
waves_up_to circuit horizon nets = map (λ net. wave_of (value_of circuit net) 0 (horizon + 1)) nets
