-- What a gate and a flip-flop show, by what a design tells of them.
use Rattle.std.proofs.Common.{◌≡◌, ℕ, zero, suc, ◌<◌, List, [], ◌∷◌, length, get_or, Option, None, Some, option_map, refl, ap, arith}
use Rattle.std.specs.Option.{option_map_or}
use Rattle.std.proofs.lemmas.Option.{none-some, same_Some}
use Rattle.logic3.specs.declared.value.Value.{Value}
use Rattle.logic3.specs.declared.value.Value.TheVariants.{Unknown}
use Rattle.logic3.specs.declared.gates.GateKind.{GateKind}
use Rattle.logic3.specs.Gate.{value_of_gate}
use Rattle.netlist.specs.declared.part.Part.TheVariants.{Gate, Flop}
use Rattle.timing_text.specs.declared.timing.Timing.{Timing}
use Rattle.design.specs.Circuit.{Net}
use Rattle.design.specs.Samples.{asked_of_part}
use Rattle.design.specs.Equations.{equation_at, later, pin_signals, values_at}
use Rattle.design.proofs.Solution.{same_asked}

-- what pins show at a tick, place by place
pub length-pin_values : (signals : ℕ → ℕ → Value) (tick : ℕ) (pins wires : List ℕ) → length wires ≡ length pins →
    length (values_at tick (pin_signals signals pins wires)) ≡ length pins
length-pin_values signals tick [] wires long = refl
length-pin_values signals tick (pin ∷ pins) [] long = absurd (omega arith)
length-pin_values signals tick (pin ∷ pins) (wire ∷ wires) long = ap suc (length-pin_values signals tick pins wires (omega arith))

pub pin_value_at : (signals : ℕ → ℕ → Value) (tick : ℕ) (pins wires : List ℕ) (place : ℕ) (d : Value) → length wires ≡ length pins →
    place < length pins →
    get_or (values_at tick (pin_signals signals pins wires)) place d ≡ later (get_or wires place 0) (signals (get_or pins place 0)) tick
pin_value_at signals tick [] wires place d long within = absurd (omega arith)
pin_value_at signals tick (pin ∷ pins) [] place d long within = absurd (omega arith)
pin_value_at signals tick (pin ∷ pins) (wire ∷ wires) zero d long within = refl
pin_value_at signals tick (pin ∷ pins) (wire ∷ wires) (suc place) d long within =
    pin_value_at signals tick pins wires place d (omega arith) (omega arith)

-- what a gate shows
pub gate_equation : (place : Option Net) (kind : GateKind) (pins wires : List ℕ) (timing : Timing) →
    option_map (λ (net : Net). net.part) place ≡ Some (Gate kind) → option_map (λ (net : Net). net.pins) place ≡ Some pins →
    option_map (λ (net : Net). net.wires) place ≡ Some wires → option_map (λ (net : Net). net.timing) place ≡ Some timing →
    (signals : ℕ → ℕ → Value) (tick : ℕ) →
    option_map_or (λ at. value_of_gate kind (values_at at (pin_signals signals pins wires))) (asked_of_part (Gate kind) timing tick) Unknown
    ≡ equation_at place signals tick
gate_equation None kind pins wires timing a b c d signals tick = absurd (none-some (Gate kind) a)
gate_equation (Some net) kind pins wires timing a b c d signals tick =
    let part = same_Some net.part (Gate kind) a in
    let pins_are = same_Some net.pins pins b in
    let wires_are = same_Some net.wires wires c in
    let timing_is = same_Some net.timing timing d in
    rw (part, ← pins_are, ← wires_are, ← timing_is) refl

-- what a flip-flop shows
pub flop_equation : (place : Option Net) (pins wires : List ℕ) (timing : Timing) →
    option_map (λ (net : Net). net.part) place ≡ Some Flop → option_map (λ (net : Net). net.pins) place ≡ Some pins →
    option_map (λ (net : Net). net.wires) place ≡ Some wires → option_map (λ (net : Net). net.timing) place ≡ Some timing →
    length pins ≡ 1 → length wires ≡ length pins → (signals : ℕ → ℕ → Value) (tick : ℕ) →
    option_map_or (later (get_or wires 0 0) (signals (get_or pins 0 0))) (asked_of_part Flop timing tick) timing.initial
    ≡ equation_at place signals tick
flop_equation None pins wires timing a b c d one long signals tick = absurd (none-some Flop a)
flop_equation (Some net) [] wires timing a b c d one long signals tick = absurd (omega arith)
flop_equation (Some net) (pin ∷ pins) [] timing a b c d one long signals tick = absurd (omega arith)
flop_equation (Some net) (pin ∷ pins) (wire ∷ wires) timing a b c d one long signals tick =
    let part = same_Some net.part Flop a in
    let pins_are = same_Some net.pins (pin ∷ pins) b in
    let wires_are = same_Some net.wires (wire ∷ wires) c in
    let timing_is = same_Some net.timing timing d in
    rw (part, pins_are, wires_are, ← timing_is) (same_asked (asked_of_part Flop net.timing tick) _ _ net.timing.initial (λ at is. refl))
