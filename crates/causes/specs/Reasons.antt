-- Why a net shows its value at a tick, by its equation.
use Rattle.std.specs.Prelude.{ℕ, List, Option, None, Some, option_map, slice_get, slice_index_or}
use Rattle.std.specs.Option.{option_and_then, option_map_or}
use Rattle.logic3.specs.declared.value.Value.{Value}
use Rattle.logic3.specs.declared.gates.GateKind.{GateKind}
use Rattle.logic3.specs.declared.change.Change.{Change}
use Rattle.netlist.specs.declared.part.Part.{Part}
use Rattle.netlist.specs.declared.part.Part.TheVariants.{Input, Gate, Flop}
use Rattle.design.specs.Circuit.{Net, Circuit}
use Rattle.design.specs.Samples.{asked_of_part, asked_tick, source_tick, wire_at}
use Rattle.design.specs.Equations.{pin_signals, values_at, value_of}
use Rattle.causes.specs.declared.cause.Reason.{Reason}
use Rattle.causes.specs.declared.cause.Reason.TheVariants.{Pin, Stimulus, NoStimulus, BeforeDelay, BeforeFirstSample, BeforeWire}
use Rattle.causes.specs.Deciding.{deciding_place, last_tick, pins_since}

-- the place of the pin that decides what a gate shows, if it reads its pins at a tick
abbrev pub gate_place : GateKind → List ℕ → List ℕ → (ℕ → ℕ → Value) → ℕ → ℕ
gate_place kind pins wires signals asked =
    deciding_place kind (values_at asked (pin_signals signals pins wires)) (pins_since signals asked pins wires)

-- the pin at a place decides, if the net reads its pins at a tick
abbrev pub pin_reason : List ℕ → ℕ → ℕ → Reason
pin_reason wires asked place =
    option_map_or (λ at. Pin place) (source_tick (slice_index_or wires place 0) asked) (BeforeWire place)

-- why a gate shows its value, by the tick at which it reads its pins
abbrev pub gate_reason : GateKind → List ℕ → List ℕ → (ℕ → ℕ → Value) → Option ℕ → Reason
gate_reason kind pins wires signals asked =
    option_map_or (λ at. pin_reason wires at (gate_place kind pins wires signals at)) asked BeforeDelay

-- why a flip-flop does
abbrev pub flop_reason : List ℕ → Option ℕ → Reason
flop_reason wires asked = option_map_or (λ at. pin_reason wires at 0) asked BeforeFirstSample

-- why an input does
abbrev pub input_reason : List Change → ℕ → Reason
input_reason stimuli tick = option_map_or Stimulus (last_tick stimuli tick) NoStimulus

-- why a net does, by what drives it
abbrev pub reason_of_part : Part → Net → (ℕ → ℕ → Value) → ℕ → Reason
reason_of_part Input net signals tick = input_reason net.stimuli tick
reason_of_part (Gate kind) net signals tick =
    gate_reason kind net.pins net.wires signals (asked_of_part (Gate kind) net.timing tick)
reason_of_part Flop net signals tick = flop_reason net.wires (asked_of_part Flop net.timing tick)

abbrev pub reason_at : Option Net → (ℕ → ℕ → Value) → ℕ → Reason
reason_at None signals tick = NoStimulus
reason_at (Some net) signals tick = reason_of_part net.part net signals tick

-- why a net of a circuit shows its value at a tick
abbrev pub reason_of : Circuit → ℕ → ℕ → Reason
reason_of circuit net tick = reason_at (slice_get circuit net) (value_of circuit) tick

-- what the pin at a place shows at the tick at which its net reads its pins: a net and a tick
abbrev pub source_at : Net → ℕ → ℕ → Option (ℕ × ℕ)
source_at net asked place =
    option_and_then (λ at. option_map (λ pin. (pin, at)) (slice_get net.pins place)) (source_tick (wire_at net place) asked)

abbrev pub source_of : Option Net → ℕ → ℕ → Option (ℕ × ℕ)
source_of None tick place = None
source_of (Some net) tick place = option_and_then (λ asked. source_at net asked place) (asked_tick net tick)
