-- What a design's nets keep, one by one.
use Rattle.std.proofs.Common.{◌≡◌, ℕ, ◌<◌, List, map, length, Option, None, Some, option_map, true, leb, refl, ap, sym, ◌∙◌, subst, slice_get, All}
use Rattle.std.proofs.lemmas.List.{length-map, get_or-map}
use Rattle.std.proofs.lemmas.Bool.{eqb-true, leb-true, and_parts}
use Rattle.std.proofs.lemmas.Option.{slice_get_within, get_or_from_slice_get, none-some, same_Some}
use Rattle.logic3.specs.Gate.{HasArity}
use Rattle.logic3.specs.declared.gates.GateKind.{GateKind}
use Rattle.logic3.specs.declared.gates.GateKind.TheVariants.{Not, Buf}
use Rattle.netlist.specs.declared.part.Part.{Part}
use Rattle.netlist.specs.declared.part.Part.TheVariants.{Gate, Flop}
use Rattle.netlist.specs.Part.{takes_pins}
use Rattle.netlist.specs.Netlist.{NetView}
use Rattle.timing_text.specs.declared.timing.Timing.{Timing}
use Rattle.timing_text.specs.Ranges.{HasTiming}
use Rattle.design.specs.Circuit.{Net, Circuit, IsCircuit, IsTimed}
use Rattle.design.specs.Design.{DesignView, IsDesign, untimed}

-- what holds of each element holds of the one at a place
pub All-slice_get : {A : Type 0} (P : A → Type 0) (xs : List A) (place : ℕ) (x : A) → All P xs → slice_get xs place ≡ Some x → P x
All-slice_get P xs place x all at =
    subst P (get_or_from_slice_get xs place x x at) (all place x (slice_get_within xs place x at))

-- what a circuit keeps of the net at a place
pub timed_at : (circuit : Circuit) → IsCircuit circuit → (number : ℕ) (net : Net) → slice_get circuit number ≡ Some net → IsTimed net
timed_at circuit ok number net at = All-slice_get IsTimed circuit number net ok.timed at

pub pins_at : (circuit : Circuit) → IsCircuit circuit → (number : ℕ) (net : Net) → slice_get circuit number ≡ Some net →
    All (λ pin. pin < length circuit) net.pins
pins_at circuit ok number net at = All-slice_get (λ (n : Net). All (λ pin. pin < length circuit) n.pins) circuit number net ok.pins at

-- what holds of each image holds of what it is the image of
All-unmap : {A B : Type 0} (P : B → Type 0) (f : A → B) (xs : List A) → All P (map f xs) → All (λ x. P (f x)) xs
All-unmap P f xs all place d below =
    subst P (get_or-map f xs place d (f d) below) (all place (f d) (rw length-map below))

-- what holds of each net of a design's netlist holds of each net of its circuit
timed_nets : (P : NetView → Type 0) (design : DesignView) → IsDesign design → All P design.netlist.nets →
    All (λ net. P (untimed net)) design.circuit
timed_nets P design ok all = All-unmap P untimed design.circuit (subst (All P) (sym ok.same_nets) all)

-- a design's circuit is a circuit
pub IsCircuit-from_IsDesign : (design : DesignView) → IsDesign design → IsCircuit design.circuit
IsCircuit-from_IsDesign design ok =
    let same : length design.netlist.nets ≡ length design.circuit = ap length (sym ok.same_nets) ∙ length-map design.circuit untimed in
    record {
      pins = subst (λ nets. All (λ (net : Net). All (λ pin. pin < nets) net.pins) design.circuit) same
          (timed_nets (λ (net : NetView). All (λ pin. pin < length design.netlist.nets) net.pins) design ok ok.netlist.pins);
      timed = ok.timed;
    }

-- ---- one net, by what the design tells of it

-- where a field of the net at a place is known, there is a net
pub net_with : {A : Type 0} (field : Net → A) (place : Option Net) (x : A) → option_map field place ≡ Some x →
    (net : Net) × (place ≡ Some net) × (field net ≡ x)
net_with field None x e = absurd (none-some x e)
net_with field (Some net) x e = (net, refl, same_Some (field net) x e)

-- each net has as many pins as its part takes
pub takes_its_pins : (design : DesignView) → IsDesign design → (number : ℕ) (part : Part) (pins : List ℕ) →
    option_map (λ (net : Net). net.part) (slice_get design.circuit number) ≡ Some part →
    option_map (λ (net : Net). net.pins) (slice_get design.circuit number) ≡ Some pins →
    takes_pins part (length pins) ≡ true
takes_its_pins design ok number part pins part_is pins_are =
    let found = net_with (λ (net : Net). net.part) (slice_get design.circuit number) part part_is in
    let same : found.0.pins ≡ pins = let e = rw found.1 at pins_are in same_Some found.0.pins pins e in
    let takes = timed_nets (λ (net : NetView). takes_pins net.part (length net.pins) ≡ true) design ok ok.netlist.arities in
    let here = All-slice_get (λ (net : Net). takes_pins net.part (length net.pins) ≡ true) design.circuit number found.0 takes found.1 in
    rw (← found.2, ← same) here

-- pins name nets
pub pins_below : (design : DesignView) → IsDesign design → (number : ℕ) (pins : List ℕ) →
    option_map (λ (net : Net). net.pins) (slice_get design.circuit number) ≡ Some pins →
    All (λ pin. pin < length design.circuit) pins
pins_below design ok number pins pins_are =
    let found = net_with (λ (net : Net). net.pins) (slice_get design.circuit number) pins pins_are in
    let circuit = IsCircuit-from_IsDesign design ok in
    rw (← found.2) (All-slice_get (λ (net : Net). All (λ pin. pin < length design.circuit) net.pins) design.circuit number found.0 circuit.pins found.1)

-- its timing is one that its part may have
pub has_timing : (circuit : Circuit) → IsCircuit circuit → (number : ℕ) (part : Part) (timing : Timing) →
    option_map (λ (net : Net). net.part) (slice_get circuit number) ≡ Some part →
    option_map (λ (net : Net). net.timing) (slice_get circuit number) ≡ Some timing → HasTiming part timing
has_timing circuit ok number part timing part_is timing_is =
    let found = net_with (λ (net : Net). net.timing) (slice_get circuit number) timing timing_is in
    let same : found.0.part ≡ part = let e = rw found.1 at part_is in same_Some found.0.part part e in
    let timed = timed_at circuit ok number found.0 found.1 in
    rw (← found.2, ← same) timed.timing

-- each of its pins has a wire
pub has_wires : (circuit : Circuit) → IsCircuit circuit → (number : ℕ) (pins wires : List ℕ) →
    option_map (λ (net : Net). net.pins) (slice_get circuit number) ≡ Some pins →
    option_map (λ (net : Net). net.wires) (slice_get circuit number) ≡ Some wires → length wires ≡ length pins
has_wires circuit ok number pins wires pins_are wires_are =
    let found = net_with (λ (net : Net). net.wires) (slice_get circuit number) wires wires_are in
    let same : found.0.pins ≡ pins = let e = rw found.1 at pins_are in same_Some found.0.pins pins e in
    let timed = timed_at circuit ok number found.0 found.1 in
    rw (← found.2, ← same) timed.wires.each

arity_of : (kind : GateKind) (pins : ℕ) → takes_pins (Gate kind) pins ≡ true → HasArity kind pins
arity_of Not pins e = eqb-true pins 1 e
arity_of Buf pins e = eqb-true pins 1 e
arity_of _ pins e = leb-true 1 pins (and_parts (leb 1 pins) (leb pins 1024) e).0

-- a gate has as many pins as it takes
pub gate_arity : (design : DesignView) → IsDesign design → (number : ℕ) (kind : GateKind) (pins : List ℕ) →
    option_map (λ (net : Net). net.part) (slice_get design.circuit number) ≡ Some (Gate kind) →
    option_map (λ (net : Net). net.pins) (slice_get design.circuit number) ≡ Some pins →
    HasArity kind (length pins)
gate_arity design ok number kind pins part_is pins_are =
    arity_of kind (length pins) (takes_its_pins design ok number (Gate kind) pins part_is pins_are)

-- a flip-flop has one pin
pub flop_arity : (design : DesignView) → IsDesign design → (number : ℕ) (pins : List ℕ) →
    option_map (λ (net : Net). net.part) (slice_get design.circuit number) ≡ Some Flop →
    option_map (λ (net : Net). net.pins) (slice_get design.circuit number) ≡ Some pins →
    length pins ≡ 1
flop_arity design ok number pins part_is pins_are =
    eqb-true (length pins) 1 (takes_its_pins design ok number Flop pins part_is pins_are)
