-- A sweep goes the same from states that are alike but for what nets show.
use Rattle.std.proofs.Common.{◌≡◌, ℕ, ◌<◌, nat_lt, Bool, true, false, cond, List, [], ◌∷◌, length, slice_index_or, All, refl, ap, sym, ◌∙◌}
use Rattle.std.proofs.lemmas.List.Elements.{All-head, All-tail}
use Rattle.design.specs.Circuit.{Circuit, IsCircuit, pin_count}
use Rattle.design.specs.Pins.{net_of_pin, place_of_pin}
use Rattle.cmb_channels.specs.declared.message.Message.{Message}
use Rattle.gate_process.specs.Step.{ProcessState}
use Rattle.cmb_events.specs.declared.event.Event.TheVariants.{Deliver, Advance}
use Rattle.cmb_kernel.specs.State.{State, nets_of, received_of, received_at, waiting_at}
use Rattle.cmb_kernel.specs.Step.{step}
use Rattle.cmb_kernel.specs.Sweeps.{pin_numbers, taken_below, caught_up, all_caught_up, swept_net, swept}
use Rattle.cmb_kernel.specs.Sound.{IsSound}
use Rattle.cmb_kernel.specs.Drains.{apart_from_waves}
use Rattle.cmb_kernel.proofs.Soundness.{step_sound}
use Rattle.cmb_kernel.proofs.Rises.{known_at, received_is}
use Rattle.cmb_kernel.proofs.Alike.{alike_step, alike_views}
use Rattle.cmb_kernel.proofs.EventsLead.{lead_sound}
use Rattle.cmb_kernel.proofs.Sweeping.{pins_exist, catching_up_leads, all_catching_up_leads, swept_net_is, net_sweep_leads}

-- what a pin knows doesn't depend on what nets show
alike_received : (one other : State) → apart_from_waves one ≡ apart_from_waves other → (pin : ℕ) → received_at one pin ≡ received_at other pin
alike_received one other alike pin =
    received_is one pin
    ∙ ap (λ nets. known_at one.processes (net_of_pin nets pin) (place_of_pin nets pin))
    (alike_views one other alike (λ (p : ProcessState). p.net) (λ p. refl))
    ∙ ap (λ frontiers. slice_index_or frontiers (net_of_pin (nets_of other) pin) 0)
    (alike_views one other alike (λ (p : ProcessState). received_of p (place_of_pin (nets_of other) pin)) (λ p. refl))
    ∙ sym (received_is other pin)

module _ (circuit : Circuit) (ok : IsCircuit circuit) (last tick : ℕ) where
  alike_taking : (pin : ℕ) → pin < pin_count circuit → (messages : List Message) (one other : State) →
      IsSound circuit last one → IsSound circuit last other → apart_from_waves one ≡ apart_from_waves other →
      apart_from_waves (taken_below tick pin one messages) ≡ apart_from_waves (taken_below tick pin other messages)
  alike_taking pin exists [] one other sound_one sound_other alike = alike
  alike_taking pin exists (message ∷ messages) one other sound_one sound_other alike =
      ap (λ known. apart_from_waves (cond (nat_lt known tick) (taken_below tick pin (step one (Deliver pin)) messages) one))
      (alike_received one other alike pin)
      ∙ go (nat_lt (received_at other pin) tick)
      (alike_taking pin exists messages (step one (Deliver pin)) (step other (Deliver pin))
      (step_sound circuit ok last one (Deliver pin) sound_one exists) (step_sound circuit ok last other (Deliver pin) sound_other exists)
      (alike_step circuit ok last one other (Deliver pin) sound_one sound_other alike))
    where
      go : (early : Bool) →
          apart_from_waves (taken_below tick pin (step one (Deliver pin)) messages)
          ≡ apart_from_waves (taken_below tick pin (step other (Deliver pin)) messages) →
          apart_from_waves (cond early (taken_below tick pin (step one (Deliver pin)) messages) one)
          ≡ apart_from_waves (cond early (taken_below tick pin (step other (Deliver pin)) messages) other)
      go true later = later
      go false later = alike

  alike_catching_up : (pin : ℕ) → pin < pin_count circuit → (one other : State) → IsSound circuit last one → IsSound circuit last other →
      apart_from_waves one ≡ apart_from_waves other → apart_from_waves (caught_up tick one pin) ≡ apart_from_waves (caught_up tick other pin)
  alike_catching_up pin exists one other sound_one sound_other alike =
      ap (λ lists. apart_from_waves (taken_below tick pin one (slice_index_or lists pin []))) (ap (λ (s : State). s.lists) alike)
      ∙ alike_taking pin exists (waiting_at other pin) one other sound_one sound_other alike

  all_alike : (pins : List ℕ) → All (λ pin. pin < pin_count circuit) pins → (one other : State) →
      IsSound circuit last one → IsSound circuit last other → apart_from_waves one ≡ apart_from_waves other →
      apart_from_waves (all_caught_up tick one pins) ≡ apart_from_waves (all_caught_up tick other pins)
  all_alike [] exist one other sound_one sound_other alike = alike
  all_alike (pin ∷ pins) exist one other sound_one sound_other alike =
      let there = All-head (λ n. n < pin_count circuit) pin pins exist in
      all_alike pins (All-tail (λ n. n < pin_count circuit) pin pins exist) (caught_up tick one pin) (caught_up tick other pin)
      (lead_sound circuit ok last (catching_up_leads circuit tick one pin there) sound_one)
      (lead_sound circuit ok last (catching_up_leads circuit tick other pin there) sound_other)
      (alike_catching_up pin there one other sound_one sound_other alike)

  alike_net : (net : ℕ) → (one other : State) → IsSound circuit last one → IsSound circuit last other →
      apart_from_waves one ≡ apart_from_waves other → apart_from_waves (swept_net tick one net) ≡ apart_from_waves (swept_net tick other net)
  alike_net net one other sound_one sound_other alike =
      let pins = pins_exist circuit net in
      ap (λ s. apart_from_waves s) (swept_net_is circuit last tick one net sound_one)
      ∙ alike_step circuit ok last (all_caught_up tick one (pin_numbers circuit net)) (all_caught_up tick other (pin_numbers circuit net)) (Advance net)
      (lead_sound circuit ok last (all_catching_up_leads circuit tick one (pin_numbers circuit net) pins) sound_one)
      (lead_sound circuit ok last (all_catching_up_leads circuit tick other (pin_numbers circuit net) pins) sound_other)
      (all_alike (pin_numbers circuit net) pins one other sound_one sound_other alike)
      ∙ sym (ap (λ s. apart_from_waves s) (swept_net_is circuit last tick other net sound_other))

  pub alike_sweep : (order : List ℕ) (one other : State) → IsSound circuit last one → IsSound circuit last other →
      All (λ net. net < length circuit) order → apart_from_waves one ≡ apart_from_waves other →
      apart_from_waves (swept tick order one) ≡ apart_from_waves (swept tick order other)
  alike_sweep [] one other sound_one sound_other exist alike = alike
  alike_sweep (net ∷ order) one other sound_one sound_other exist alike =
      let there = All-head (λ n. n < length circuit) net order exist in
      alike_sweep order (swept_net tick one net) (swept_net tick other net)
      (lead_sound circuit ok last (net_sweep_leads circuit last tick one net sound_one there) sound_one)
      (lead_sound circuit ok last (net_sweep_leads circuit last tick other net sound_other there) sound_other)
      (All-tail (λ n. n < length circuit) net order exist) (alike_net net one other sound_one sound_other alike)
