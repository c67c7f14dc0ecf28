-- Some nets of a design make a design.
use Rattle.std.proofs.Common.{◌≡◌, ℕ, ◌+◌, ◌<◌, List, [], ◌∷◌, ◌++◌, length, get_or, map, take, option_map, Some, slice_get, All, refl, sym, ap, subst, ◌∙◌}
use Rattle.std.proofs.lemmas.List.{get_or-map, length-map, map_more}
use Rattle.std.proofs.lemmas.List.Elements.{All-head, All-tail, All-map, All-weaker}
use Rattle.std.proofs.lemmas.Option.{get_or_from_slice_get}
use Rattle.logic3.specs.declared.change.Change.{Change}
use Rattle.netlist.specs.Netlist.{NetView, NetlistView, IsNetlist, all_pins, net_at}
use Rattle.netlist.specs.Pick.{place_in, picked, picked_net}
use Rattle.netlist.proofs.CallerLemmas.{no_net}
use Rattle.timing_text.specs.declared.timing.Timing.{Timing}
use Rattle.design.specs.Circuit.{Net, Circuit, IsTimed}
use Rattle.design.specs.Design.{DesignView, IsDesign, untimed}
use Rattle.design.specs.Joined.{design_view, first_pins_of, timed_net, timed_nets, IsJoined}
use Rattle.design.specs.Pins.{all_fed}
use Rattle.design.specs.PickedDesign.{kept_net, net_in, picked_design, stimuli_in, timing_in}
use Rattle.design.proofs.Joined.{untimed-timed_nets}
use Rattle.design.proofs.Stored.{length-circuit}
use Rattle.design.proofs.WellFormed.{net_with}

-- one more image at the end
pub images_more : {A : Type 0} (image : ℕ → A) (so_far pushed : List A) (x : A) (numbers : List ℕ) (i : ℕ) → i < length numbers →
    pushed ≡ so_far ++ x ∷ [] → so_far ≡ map image (take i numbers) → x ≡ image (get_or numbers i 0) → pushed ≡ map image (take (i + 1) numbers)
images_more image so_far pushed x numbers i within push known here =
    push ∙ (λ k. known k ++ here k ∷ []) ∙ sym (map_more image numbers i 0 within)

-- what is told of the net at a number is told of the net
pub net_in-told : {A : Type 0} (field : Net → A) (circuit : Circuit) (number : ℕ) (x : A) →
    option_map field (slice_get circuit number) ≡ Some x → x ≡ field (net_in circuit number)
net_in-told field circuit number x told =
    let found = net_with field (slice_get circuit number) x told in
    sym found.2 ∙ ap field (sym (get_or_from_slice_get circuit number found.0 _ found.1))

-- the net of a number in the netlist is that of the circuit without its timing
pub net_at-untimed : (design : DesignView) → IsDesign design → (number : ℕ) → number < length design.circuit →
    net_at design.netlist number ≡ untimed (net_in design.circuit number)
net_at-untimed design ok number below =
    ap (λ nets. get_or nets number no_net) (sym ok.same_nets) ∙ get_or-map untimed design.circuit number _ no_net below

module _ (design : DesignView) (ok : IsDesign design) (keep outputs : List ℕ) (below : All (λ number. number < length design.netlist.nets) keep) where
  abbrev IsThere : ℕ → Type 0
  IsThere number = number < length design.circuit

  pub there : All (λ number. number < length design.circuit) keep
  there = rw (length-circuit design ok) below

  -- a net that is picked, with what it has in the whole
  by_number : (numbers : List ℕ) → All IsThere numbers →
      timed_nets (map (picked_net design.netlist keep) numbers) (map (timing_in design.circuit) numbers) (map (stimuli_in design.circuit) numbers)
      ≡ map (kept_net design.circuit keep) numbers
  by_number [] all = refl
  by_number (number ∷ numbers) all =
      let timed : (Timing × List ℕ) × List Change = (timing_in design.circuit number, stimuli_in design.circuit number) in
      let here : timed_net (picked_net design.netlist keep number, timed) ≡ kept_net design.circuit keep number =
      ap (λ (net : NetView). timed_net (record { name = net.name; part = net.part; pins = map (place_in keep) net.pins }, timed))
      (net_at-untimed design ok number (All-head IsThere number numbers all)) in
      let rest = by_number numbers (All-tail IsThere number numbers all) in
      λ i. here i ∷ rest i

  module _ (netlist : NetlistView) (timings : List (Timing × List ℕ)) (stimuli : List (List Change)) (picked_so : netlist ≡ picked design.netlist keep outputs)
      (timings_are : timings ≡ map (timing_in design.circuit) keep) (stimuli_are : stimuli ≡ map (stimuli_in design.circuit) keep) where
    circuit_is : timed_nets netlist.nets timings stimuli ≡ map (kept_net design.circuit keep) keep
    circuit_is =
        (λ i. timed_nets (picked_so i).nets (timings_are i) (stimuli_are i)) ∙ by_number keep there

    pub design_view-picked : design_view netlist timings stimuli ≡ picked_design design keep outputs
    design_view-picked = λ i. record { netlist = picked_so i; circuit = circuit_is i }

    size : length netlist.nets ≡ length keep
    size = ap (λ (n : NetlistView). length n.nets) picked_so ∙ length-map keep (picked_net design.netlist keep)

    some_timing : length timings ≡ length netlist.nets
    some_timing = ap length timings_are ∙ length-map keep (timing_in design.circuit) ∙ sym size

    some_stimuli : length stimuli ≡ length netlist.nets
    some_stimuli = ap length stimuli_are ∙ length-map keep (stimuli_in design.circuit) ∙ sym size

    IsTimed-kept : (number : ℕ) → IsThere number → IsTimed (kept_net design.circuit keep number)
    IsTimed-kept number inside =
        let timed = ok.timed number _ inside in
        record {
          timing = timed.timing;
          wires = record { each = timed.wires.each ∙ sym (length-map (net_in design.circuit number).pins (place_in keep)); most = timed.wires.most };
          stimuli = timed.stimuli;
        }

    -- and its parts fit together
    pub IsJoined-picked : (first_pins sources : List ℕ) (fed : List (List ℕ)) → IsNetlist netlist → first_pins ≡ first_pins_of netlist →
        sources ≡ all_pins netlist.nets → fed ≡ all_fed (length netlist.nets) sources →
        IsJoined netlist first_pins sources fed timings stimuli
    IsJoined-picked first_pins sources fed formed starts feeds fan_out = record {
      starts = starts;
      feeds = feeds;
      fan_out = fan_out;
      some_timing = some_timing;
      some_stimuli = some_stimuli;
      well_formed = record {
        netlist = formed;
        same_nets = untimed-timed_nets netlist.nets timings stimuli some_timing some_stimuli;
        timed = subst (All IsTimed) (sym circuit_is) (All-map IsTimed (kept_net design.circuit keep) keep (All-weaker IsThere (λ number. IsTimed (kept_net design.circuit keep number)) IsTimed-kept keep there));
      };
    }
