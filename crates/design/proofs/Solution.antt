-- The equations of a circuit have one solution.
use Rattle.std.proofs.Common.{◌≡◌, ℕ, zero, suc, ◌+◌, ◌-◌, ◌<◌, ◌≤◌, nat_lt, Bool, true, false, cond, List, [], ◌∷◌, length, map, All, Option, None, Some, refl, sym, ap, ◌∙◌, arith, slice_get, add-one, ltb-false}
use Rattle.std.specs.Option.{option_map_or}
use Rattle.std.proofs.lemmas.Option.{none-some, same_Some}
use Rattle.std.proofs.lemmas.Bool.{le-ltb, lt-ltb}
use Rattle.logic3.specs.declared.value.Value.{Value}
use Rattle.logic3.specs.declared.value.Value.TheVariants.{Unknown}
use Rattle.logic3.specs.Gate.{value_of_gate, only_pin}
use Rattle.netlist.specs.declared.part.Part.{Part}
use Rattle.netlist.specs.declared.part.Part.TheVariants.{Input, Gate, Flop}
use Rattle.design.specs.Circuit.{Net, Circuit, IsCircuit, IsTimed}
use Rattle.timing_text.specs.Ranges.{HasDelay, HasTiming}
use Rattle.design.specs.Samples.{asked_of_part, source_tick}
use Rattle.design.specs.Equations.{later, pin_signals, values_at, equation_of_part, equation, equation_at, IsSolution, value_within, value_of}
use Rattle.design.proofs.AskedTicks.{asked-early}
use Rattle.design.proofs.WellFormed.{timed_at}

-- what is found at a tick is the same where it is the same at each tick that may be asked for
pub same_asked : {A : Type 0} (asked : Option ℕ) (found other : ℕ → A) (none : A) →
    ((tick : ℕ) → asked ≡ Some tick → found tick ≡ other tick) → option_map_or found asked none ≡ option_map_or other asked none
same_asked None found other none h = refl
same_asked (Some tick) found other none h = h tick refl

-- what a pin shows is its source's, so many ticks earlier
pub source_tick-is : (wire tick at : ℕ) → source_tick wire tick ≡ Some at → at + wire ≡ tick
source_tick-is wire tick at = go (nat_lt tick wire) refl
  where
    go : (early : Bool) → nat_lt tick wire ≡ early → cond early None (Some (tick - wire)) ≡ Some at → at + wire ≡ tick
    go true e is = absurd (none-some at is)
    go false e is = omega (arith, ltb-false tick wire e, same_Some (tick - wire) at is)

-- a wire of no ticks changes nothing
pub later-zero : (signal : ℕ → Value) (tick : ℕ) → later 0 signal tick ≡ signal tick
later-zero signal tick =
    let none : nat_lt tick 0 ≡ false = le-ltb tick 0 (omega arith) in
    let whole : tick - 0 ≡ tick = omega arith in
    rw none (ap signal whole)

-- so many ticks later a pin shows what its source showed
pub later-is : (wire at : ℕ) (signal : ℕ → Value) → later wire signal (at + wire) ≡ signal at
later-is wire at signal =
    let over : nat_lt (at + wire) wire ≡ false = le-ltb (at + wire) wire (omega arith) in
    let back : at + wire - wire ≡ at = omega arith in
    rw over (ap signal back)

-- and before that X
pub later-before : (wire tick : ℕ) (signal : ℕ → Value) → tick < wire → later wire signal tick ≡ Unknown
later-before wire tick signal early = rw (lt-ltb tick wire early) refl

-- where no wire takes a tick, pins show what their sources show
pub pins_at_once : (signals : ℕ → ℕ → Value) (tick : ℕ) (pins wires : List ℕ) → length wires ≡ length pins → All (λ wire. wire ≡ 0) wires →
    values_at tick (pin_signals signals pins wires) ≡ values_at tick (map signals pins)
pins_at_once signals tick [] wires long none = refl
pins_at_once signals tick (pin ∷ pins) [] long none = absurd (omega arith)
pins_at_once signals tick (pin ∷ pins) (wire ∷ wires) long none =
    let at_once : wire ≡ 0 = none 0 0 (omega arith) in
    let first = ap (λ ticks. later ticks (signals pin) tick) at_once ∙ later-zero (signals pin) tick in
    let rest = pins_at_once signals tick pins wires (omega arith) (λ k d within. none (suc k) d (omega arith)) in
    λ i. first i ∷ rest i

-- a pin shows the same where its source does, at the tick that the wire tells
pub same_later : (f g : ℕ → Value) (tick wire : ℕ) → ((at : ℕ) → source_tick wire tick ≡ Some at → f at ≡ g at) →
    later wire f tick ≡ later wire g tick
same_later f g tick wire h = same_asked (source_tick wire tick) f g Unknown h

-- pins show the same where their sources do, at the ticks that the wires tell
pub same_pins : (f g : ℕ → ℕ → Value) (tick : ℕ) (pins wires : List ℕ) →
    ((place pin wire at : ℕ) → slice_get pins place ≡ Some pin → slice_get wires place ≡ Some wire → source_tick wire tick ≡ Some at →
    f pin at ≡ g pin at) →
    values_at tick (pin_signals f pins wires) ≡ values_at tick (pin_signals g pins wires)
same_pins f g tick [] wires h = refl
same_pins f g tick (pin ∷ pins) [] h = refl
same_pins f g tick (pin ∷ pins) (wire ∷ wires) h =
    let a = same_later (f pin) (g pin) tick wire (λ at is. h 0 pin wire at refl refl is) in
    let b = same_pins f g tick pins wires (λ place. h (suc place)) in
    λ i. a i ∷ b i

-- and so where they do up to this tick
pub same_pin_signals : (f g : ℕ → ℕ → Value) (tick : ℕ) (pins wires : List ℕ) →
    ((pin at : ℕ) → at ≤ tick → f pin at ≡ g pin at) →
    values_at tick (pin_signals f pins wires) ≡ values_at tick (pin_signals g pins wires)
same_pin_signals f g tick pins wires h =
    same_pins f g tick pins wires (λ place pin wire at _ _ is. h pin at (omega (arith, source_tick-is wire tick at is)))

-- an equation gives the same where the signals show the same at the tick that is asked for
pub same_values : (part : Part) (net : Net) (f g : List (ℕ → Value)) (tick : ℕ) →
    ((asked : ℕ) → asked_of_part part net.timing tick ≡ Some asked → values_at asked f ≡ values_at asked g) →
    equation_of_part part net f tick ≡ equation_of_part part net g tick
same_values Input net f g tick h = refl
same_values (Gate kind) net f g tick h =
    same_asked (asked_of_part (Gate kind) net.timing tick) _ _ Unknown (λ at is. ap (value_of_gate kind) (h at is))
same_values Flop net f g tick h =
    same_asked (asked_of_part Flop net.timing tick) _ _ net.timing.initial (λ at is. ap only_pin (h at is))

-- it asks for earlier ticks alone
same_equation : (part : Part) (net : Net) (f g : ℕ → ℕ → Value) (tick : ℕ) → HasTiming part net.timing →
    ((pin at : ℕ) → at < tick → f pin at ≡ g pin at) →
    equation_of_part part net (pin_signals f net.pins net.wires) tick ≡ equation_of_part part net (pin_signals g net.pins net.wires) tick
same_equation part net f g tick timing h =
    same_values part net (pin_signals f net.pins net.wires) (pin_signals g net.pins net.wires) tick (λ at is.
    let before = earlier part timing.delay (asked-early net.timing part timing.clock tick at is) is in
    same_pin_signals f g at net.pins net.wires (λ pin from up_to. h pin from (omega (arith, before, up_to))))
  where
    earlier : {at : ℕ} (part : Part) → HasDelay part net.timing.delay → at + net.timing.delay ≤ tick → asked_of_part part net.timing tick ≡ Some at → at < tick
    earlier {at} Input delay late is = absurd (none-some at is)
    earlier (Gate kind) delay late is = omega arith
    earlier Flop delay late is = omega arith

-- where no wire takes a tick, a net asks its sources themselves
pub equation_at_once : (net : Net) (signals : ℕ → ℕ → Value) (tick : ℕ) → IsTimed net → All (λ wire. wire ≡ 0) net.wires →
    equation_at (Some net) signals tick ≡ equation net (map signals net.pins) tick
equation_at_once net signals tick timed none =
    same_values net.part net (pin_signals signals net.pins net.wires) (map signals net.pins) tick
    (λ at is. pins_at_once signals at net.pins net.wires timed.wires.each none)

-- the same at a place of a circuit
same_at_place : (place : Option Net) (f g : ℕ → ℕ → Value) (tick : ℕ) → ((net : Net) → place ≡ Some net → IsTimed net) →
    ((pin at : ℕ) → at < tick → f pin at ≡ g pin at) → equation_at place f tick ≡ equation_at place g tick
same_at_place None f g tick timed h = refl
same_at_place (Some net) f g tick timed h =
    let ok = timed net refl in same_equation net.part net f g tick ok.timing h

-- any solution is what the equations give within enough ticks
within_solution : (circuit : Circuit) → IsCircuit circuit → (signals : ℕ → ℕ → Value) → IsSolution circuit signals →
    (ticks net tick : ℕ) → tick < ticks → signals net tick ≡ value_within circuit ticks net tick
within_solution circuit ok signals solves zero net tick below = absurd (omega arith)
within_solution circuit ok signals solves (suc ticks) net tick below =
    solves net tick ∙ same_at_place (slice_get circuit net) signals (value_within circuit ticks) tick (timed_at circuit ok net)
    (λ pin at early. within_solution circuit ok signals solves ticks pin at (omega arith))

-- enough is enough
within_more : (circuit : Circuit) → IsCircuit circuit → (few many net tick : ℕ) → tick < few → tick < many →
    value_within circuit few net tick ≡ value_within circuit many net tick
within_more circuit ok zero many net tick a b = absurd (omega arith)
within_more circuit ok (suc few) zero net tick a b = absurd (omega arith)
within_more circuit ok (suc few) (suc many) net tick a b =
    same_at_place (slice_get circuit net) (value_within circuit few) (value_within circuit many) tick (timed_at circuit ok net)
    (λ pin at early. within_more circuit ok few many pin at (omega arith) (omega arith))

-- what nets show meets the equations
pub value_solves : (circuit : Circuit) → IsCircuit circuit → IsSolution circuit (value_of circuit)
unfolding value_of
value_solves circuit ok net tick = rw add-one (
    same_at_place (slice_get circuit net) (value_within circuit tick) (λ n t. value_within circuit (t + 1) n t) tick (timed_at circuit ok net)
    (λ pin at early. within_more circuit ok tick (at + 1) pin at early (omega arith)))

-- and nothing else does
pub value_only : (circuit : Circuit) (signals : ℕ → ℕ → Value) → IsCircuit circuit → IsSolution circuit signals →
    (net tick : ℕ) → signals net tick ≡ value_of circuit net tick
unfolding value_of
value_only circuit signals ok solves net tick = within_solution circuit ok signals solves (tick + 1) net tick (omega arith)

-- signals that are right at earlier ticks give the right value at this one
pub value_from_earlier : (circuit : Circuit) → IsCircuit circuit → (signals : ℕ → ℕ → Value) (net tick : ℕ) →
    ((pin at : ℕ) → at < tick → signals pin at ≡ value_of circuit pin at) →
    equation_at (slice_get circuit net) signals tick ≡ value_of circuit net tick
value_from_earlier circuit ok signals net tick same =
    same_at_place (slice_get circuit net) signals (value_of circuit) tick (timed_at circuit ok net) same
    ∙ sym (value_solves circuit ok net tick)
