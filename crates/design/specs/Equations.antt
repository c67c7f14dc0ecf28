-- What the nets of a circuit show: the defining equations.
use Rattle.std.specs.Prelude.{◌≡◌, ℕ, zero, suc, ◌+◌, List, [], ◌∷◌, length, map, slice_get, Option, None, Some}
use Rattle.std.specs.List.{range_with_len}
use Rattle.std.specs.Option.{option_map_or}
use Rattle.logic3.specs.declared.value.Value.{Value}
use Rattle.logic3.specs.declared.value.Value.TheVariants.{Unknown}
use Rattle.logic3.specs.Gate.{value_of_gate, only_pin}
use Rattle.logic3.specs.Wave.{Wave, value_after, value_at, wave_of}
use Rattle.netlist.specs.declared.part.Part.{Part}
use Rattle.netlist.specs.declared.part.Part.TheVariants.{Input, Gate, Flop}
use Rattle.design.specs.Circuit.{Net, Circuit}
use Rattle.design.specs.Samples.{asked_of_part, source_tick}

-- what a pin shows: its source's signal, delayed by its wire delay, and X before that
abbrev pub later : ℕ → (ℕ → Value) → ℕ → Value
later wire signal tick = option_map_or signal (source_tick wire tick) Unknown

-- what the pins of these sources show, each with its wire delay
abbrev pub pin_signals : (ℕ → ℕ → Value) → List ℕ → List ℕ → List (ℕ → Value)
pin_signals signals (pin ∷ pins) (wire ∷ wires) = later wire (signals pin) ∷ pin_signals signals pins wires
pin_signals signals _ _ = []

-- what signals show at a tick
abbrev pub values_at : ℕ → List (ℕ → Value) → List Value
values_at tick signals = map (λ (signal : ℕ → Value). signal tick) signals

-- the value of a net at a tick, from the signals at its pins; a flip-flop begins with its initial value, and a gate with X
abbrev pub equation_of_part : Part → Net → List (ℕ → Value) → ℕ → Value
equation_of_part Input net signals tick = value_after Unknown net.stimuli tick
equation_of_part (Gate kind) net signals tick =
    option_map_or (λ asked. value_of_gate kind (values_at asked signals)) (asked_of_part (Gate kind) net.timing tick) Unknown
equation_of_part Flop net signals tick =
    option_map_or (λ asked. only_pin (values_at asked signals)) (asked_of_part Flop net.timing tick) net.timing.initial

abbrev pub equation : Net → List (ℕ → Value) → ℕ → Value
equation net signals tick = equation_of_part net.part net signals tick

abbrev pub equation_at : Option Net → (ℕ → ℕ → Value) → ℕ → Value
equation_at None signals tick = Unknown
equation_at (Some net) signals tick = equation net (pin_signals signals net.pins net.wires) tick

-- a family of signals that meets the equation of each net
abbrev pub IsSolution : Circuit → (ℕ → ℕ → Value) → Type 0
IsSolution circuit signals = (net tick : ℕ) → signals net tick ≡ equation_at (slice_get circuit net) signals tick

-- what the equations give within a number of ticks, each one asking only for earlier ticks
abbrev pub value_within : Circuit → ℕ → ℕ → ℕ → Value
value_within circuit zero net tick = Unknown
value_within circuit (suc ticks) net tick = equation_at (slice_get circuit net) (value_within circuit ticks) tick

-- what a net shows at a tick
unfoldable pub value_of : Circuit → ℕ → ℕ → Value
value_of circuit net tick = value_within circuit (tick + 1) net tick

-- the waveforms of all nets, in order, up to but not including a tick
unfoldable pub waves_of : Circuit → ℕ → List Wave
waves_of circuit to = map (λ net. wave_of (value_of circuit net) 0 to) (range_with_len 0 (length circuit))

-- what waveforms show, by net
abbrev pub signals_in : List Wave → ℕ → ℕ → Value
signals_in waves net tick = option_map_or (λ (wave : Wave). value_at wave tick) (slice_get waves net) Unknown
