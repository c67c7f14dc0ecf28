-- The shown nets of a circuit, with their names and waveforms.
use Rattle.std.specs.Prelude.{ℕ, ◌≤◌, List, [], ◌∷◌, map, slice_get, All}
use Rattle.std.specs.Option.{option_map_or}
use Rattle.logic3.specs.declared.value.Value.{Value}
use Rattle.logic3.specs.declared.value.Value.TheVariants.{Unknown}
use Rattle.logic3.specs.declared.change.Change.{Change}
use Rattle.logic3.specs.Wave.{Wave, value_at}
use Rattle.design.specs.Circuit.{Net, Circuit}
use Rattle.vcd_dump.specs.Dump.{Trace, Variable, variables_of}

-- a waveform without changes after a tick
abbrev pub EndsBy : ℕ → Wave → Type 0
EndsBy tick wave = All (λ (change : Change). change.tick ≤ tick) wave.changes

-- the name of a net, by its number
abbrev pub name_of : Circuit → ℕ → List ℕ
name_of circuit net = option_map_or (λ (n : Net). n.name) (slice_get circuit net) []

-- the names of shown nets, each with what its waveform shows
abbrev pub traces : Circuit → List ℕ → List Wave → List Trace
traces circuit (net ∷ shown) (wave ∷ waves) = (name_of circuit net, value_at wave) ∷ traces circuit shown waves
traces circuit shown waves = []

-- the names of shown nets, each with its signal
abbrev pub net_traces : Circuit → List ℕ → (ℕ → ℕ → Value) → List Trace
net_traces circuit shown signals = map (λ net. (name_of circuit net, signals net)) shown

-- the shown nets as in their declarations, which contain no values
abbrev pub named : Circuit → List ℕ → List Variable
named circuit shown = variables_of (net_traces circuit shown (λ net tick. Unknown))
