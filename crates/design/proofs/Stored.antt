-- What a design's stored parts say of it.
use Rattle.std.proofs.Common.{◌≡◌, ℕ, ◌+◌, ◌<◌, ◌≤◌, List, [], ◌∷◌, ◌++◌, length, map, get_or, option_map, Some, slice_get, refl, ap, sym, ◌∙◌, subst, arith}
use Rattle.std.specs.List.{sum_by}
use Rattle.std.specs.Option.{ForSome}
use Rattle.std.proofs.lemmas.List.{length-map}
use Rattle.std.proofs.lemmas.List.Sums.{sum_by-cons}
use Rattle.std.proofs.lemmas.Simd.{map-map}
use Rattle.logic3.specs.declared.change.Change.{Change}
use Rattle.netlist.specs.Netlist.{NetView, NetlistView, all_pins}
use Rattle.timing_text.specs.declared.timing.Timing.{Timing}
use Rattle.design.specs.Circuit.{Net, Circuit, pin_count}
use Rattle.design.specs.Design.{DesignView, IsDesign, untimed}
use Rattle.design.specs.Joined.{design_view, starts_from, IsJoined}
use Rattle.design.specs.Pins.{sources_of, all_fed, first_pin}
use Rattle.design.proofs.FedPins.{length-all_fed}
use Rattle.design.proofs.Joined.{get_part, first_part, second_part, timings-timed_nets, stimuli-timed_nets}
use Rattle.design.proofs.Numbers.{pin_within}
use Rattle.design.proofs.Starts.{length-starts_from, get_or-starts_from}

-- ---- of any design

pub length-circuit : (design : DesignView) → IsDesign design → length design.circuit ≡ length design.netlist.nets
length-circuit design ok = sym (length-map design.circuit untimed) ∙ ap length ok.same_nets

pin_count-untimed : (circuit : Circuit) → sum_by (λ (net : NetView). length net.pins) (map untimed circuit) ≡ pin_count circuit
pin_count-untimed [] = refl
pin_count-untimed (net ∷ circuit) =
    sum_by-cons (λ (n : NetView). length n.pins) (untimed net) (map untimed circuit)
    ∙ ap (λ n. length net.pins + n) (pin_count-untimed circuit)
    ∙ sym (sum_by-cons (λ (n : Net). length n.pins) net circuit)

pub net_limit : (design : DesignView) → IsDesign design → length design.circuit ≤ 100_000
net_limit design ok = let limit = ok.netlist.net_limit in omega (arith, length-circuit design ok)

pub pin_limit : (design : DesignView) → IsDesign design → pin_count design.circuit ≤ 1_000_000
pin_limit design ok =
    let same = sym (pin_count-untimed design.circuit) ∙ ap (sum_by (λ (net : NetView). length net.pins)) ok.same_nets in
    let limit = ok.netlist.pin_limit in
    omega arith

-- the places of a net's pins are few
pub place_limit : (design : DesignView) → IsDesign design → (net place : ℕ) → net < length design.circuit →
    ForSome (slice_get design.circuit net) (λ (n : Net). place < length n.pins) → place < 1_000_000
place_limit design ok net place within inside =
    let below = pin_within design.circuit net place within inside in
    let limit = pin_limit design ok in
    omega arith

pins_by_net : (design : DesignView) → IsDesign design →
    map (λ (net : NetView). net.pins) design.netlist.nets ≡ map (λ (net : Net). net.pins) design.circuit
pins_by_net design ok =
    ap (map (λ (net : NetView). net.pins)) (sym ok.same_nets) ∙ map-map (λ (net : NetView). net.pins) untimed design.circuit

all_pins-untimed : (circuit : Circuit) → all_pins (map untimed circuit) ≡ sources_of circuit
all_pins-untimed [] = refl
all_pins-untimed (net ∷ circuit) = ap (λ pins. net.pins ++ pins) (all_pins-untimed circuit)

-- ---- of the design that parts make

module _ {netlist : NetlistView} {first_pins sources : List ℕ} {fed : List (List ℕ)} {timings : List (Timing × List ℕ)} {stimuli : List (List Change)}
    {design : DesignView} (joined : IsJoined netlist first_pins sources fed timings stimuli) (view : design_view netlist timings stimuli ≡ design) where
  pub well_formed : IsDesign design
  well_formed = subst IsDesign view joined.well_formed

  pub starts_are : first_pins ≡ starts_from 0 (map (λ (net : Net). net.pins) design.circuit)
  starts_are =
      joined.starts ∙ ap (λ (d : DesignView). starts_from 0 (map (λ (net : NetView). net.pins) d.netlist.nets)) view
      ∙ ap (starts_from 0) (pins_by_net design well_formed)

  pub length-first_pins : length first_pins ≡ length design.circuit + 1
  length-first_pins =
      ap length starts_are ∙ length-starts_from 0 (map (λ (net : Net). net.pins) design.circuit)
      ∙ ap (λ n. n + 1) (length-map design.circuit (λ (net : Net). net.pins))

  pub first_pin_at : (net d : ℕ) → net ≤ length design.circuit → get_or first_pins net d ≡ first_pin design.circuit net
  first_pin_at net d within = ap (λ pins. get_or pins net d) starts_are ∙ get_or-starts_from design.circuit 0 net d within ∙ omega arith

  pub sources_are : sources ≡ sources_of design.circuit
  sources_are =
      joined.feeds ∙ ap (λ (d : DesignView). all_pins d.netlist.nets) view
      ∙ ap all_pins (sym well_formed.same_nets) ∙ all_pins-untimed design.circuit

  pub fed_are : fed ≡ all_fed (length design.circuit) (sources_of design.circuit)
  fed_are =
      joined.fan_out ∙ ap (λ (d : DesignView). all_fed (length d.netlist.nets) sources) view
      ∙ ap (λ nets. all_fed nets sources) (sym (length-circuit design well_formed)) ∙ ap (all_fed (length design.circuit)) sources_are

  pub length-fed : length fed ≡ length design.circuit
  length-fed = ap length fed_are ∙ length-all_fed (length design.circuit) (sources_of design.circuit)

  pub length-stimuli : length stimuli ≡ length design.circuit
  length-stimuli =
      joined.some_stimuli ∙ ap (λ (d : DesignView). length d.netlist.nets) view ∙ sym (length-circuit design well_formed)

  pub length-timings : length timings ≡ length design.circuit
  length-timings =
      joined.some_timing ∙ ap (λ (d : DesignView). length d.netlist.nets) view ∙ sym (length-circuit design well_formed)

  both_at : (net : ℕ) (d : Timing × List ℕ) → net < length design.circuit →
      option_map (λ (n : Net). (n.timing, n.wires)) (slice_get design.circuit net) ≡ Some (get_or timings net d)
  both_at net d = get_part (λ (n : Net). (n.timing, n.wires)) design.circuit timings net d
      (subst (λ (d : DesignView). map (λ (n : Net). (n.timing, n.wires)) d.circuit ≡ timings) view
      (timings-timed_nets netlist.nets timings stimuli joined.some_timing joined.some_stimuli))

  pub timing_at : (net : ℕ) (d : Timing × List ℕ) → net < length design.circuit →
      option_map (λ (n : Net). n.timing) (slice_get design.circuit net) ≡ Some (get_or timings net d).0
  timing_at net d below = first_part (λ (n : Net). n.timing) (λ (n : Net). n.wires) (slice_get design.circuit net) _ (both_at net d below)

  pub wires_at : (net : ℕ) (d : Timing × List ℕ) → net < length design.circuit →
      option_map (λ (n : Net). n.wires) (slice_get design.circuit net) ≡ Some (get_or timings net d).1
  wires_at net d below = second_part (λ (n : Net). n.timing) (λ (n : Net). n.wires) (slice_get design.circuit net) _ (both_at net d below)

  pub stimuli_at : (net : ℕ) (d : List Change) → net < length design.circuit →
      option_map (λ (n : Net). n.stimuli) (slice_get design.circuit net) ≡ Some (get_or stimuli net d)
  stimuli_at net d = get_part (λ (n : Net). n.stimuli) design.circuit stimuli net d
      (subst (λ (d : DesignView). map (λ (n : Net). n.stimuli) d.circuit ≡ stimuli) view
      (stimuli-timed_nets netlist.nets timings stimuli joined.some_timing joined.some_stimuli))
