-- What a net reads, and what it shows over that.
use Rattle.std.specs.Prelude.{ℕ, List, [], ◌∷◌, length, map, Option, Some}
use Rattle.std.specs.Option.{option_map_or}
use Rattle.logic3.specs.declared.value.Value.{Value}
use Rattle.logic3.specs.declared.value.Value.TheVariants.{Unknown}
use Rattle.logic3.specs.Gate.{value_of_gate, only_pin}
use Rattle.logic3.specs.Wave.{Wave, value_at}
use Rattle.netlist.specs.declared.part.Part.{Part}
use Rattle.netlist.specs.declared.part.Part.TheVariants.{Input, Gate, Flop}
use Rattle.timing_text.specs.declared.timing.Timing.{Timing}
use Rattle.design.specs.Circuit.{Net}
use Rattle.design.specs.Samples.{asked_of_part}
use Rattle.design.specs.Equations.{values_at}
use Rattle.gate_process.specs.Knowledge.{Knowledge, as_known}

-- what a net reads: an input its stimuli, else what is known of its pins, as it sees them, and X from there on
abbrev pub read_by_part : Part → Net → List Knowledge → List Wave
read_by_part Input net received = record { before = Unknown; changes = net.stimuli } ∷ []
read_by_part (Gate kind) net received = map as_known received
read_by_part Flop net received = map as_known received

abbrev pub read_by : Net → List Knowledge → List Wave
read_by net received = read_by_part net.part net received

-- how many waveforms it reads
abbrev pub reads_of_part : Part → Net → ℕ
reads_of_part Input net = 1
reads_of_part (Gate kind) net = length net.pins
reads_of_part Flop net = length net.pins

abbrev pub reads : Net → ℕ
reads net = reads_of_part net.part net

-- how far it can be computed at most: a gate to the end, the others as far as all their pins are known
abbrev pub most_of_part : Part → ℕ → ℕ → ℕ
most_of_part (Gate kind) end sure = end
most_of_part Input end sure = sure
most_of_part Flop end sure = sure

-- the tick of what it reads that decides what it shows at a tick: an input shows its stimuli at once
abbrev pub read_tick : Part → Timing → ℕ → Option ℕ
read_tick Input timing tick = Some tick
read_tick (Gate kind) timing tick = asked_of_part (Gate kind) timing tick
read_tick Flop timing tick = asked_of_part Flop timing tick

-- its value over the values there
abbrev pub made_of : Part → List Value → Value
made_of Input values = only_pin values
made_of (Gate kind) values = value_of_gate kind values
made_of Flop values = only_pin values

-- what it shows while it reads nothing
abbrev pub unread : Part → Timing → Value
unread Flop timing = timing.initial
unread _ timing = Unknown

-- what it shows if it reads these waveforms
abbrev pub shown : Net → List Wave → ℕ → Value
shown net read tick =
    option_map_or (λ at. made_of net.part (values_at at (map value_at read))) (read_tick net.part net.timing tick) (unread net.part net.timing)
