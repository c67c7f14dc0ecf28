-- In a sweep a pin that is known up to the tick takes nothing.
use Rattle.std.proofs.Common.{◌≡◌, ℕ, ◌<◌, ◌≤◌, nat_lt, Bool, true, false, cond, List, [], ◌∷◌, length, All, refl, ap, sym, ◌∙◌, arith, ◌⊎◌, inl, inr}
use Rattle.std.proofs.lemmas.Bool.{cases_eq}
use Rattle.std.proofs.lemmas.List.Elements.{All-head, All-tail}
use Rattle.design.specs.Circuit.{Circuit, IsCircuit, pin_count}
use Rattle.cmb_channels.specs.declared.message.Message.{Message}
use Rattle.cmb_events.specs.declared.event.Event.TheVariants.{Deliver}
use Rattle.cmb_kernel.specs.State.{State, received_at, waiting_at}
use Rattle.cmb_kernel.specs.Step.{step}
use Rattle.cmb_kernel.specs.Sweeps.{pin_numbers, taken_below, caught_up, all_caught_up, swept_net, swept}
use Rattle.cmb_kernel.specs.Sound.{IsSound}
use Rattle.cmb_kernel.proofs.Soundness.{step_sound}
use Rattle.cmb_kernel.proofs.Rises.{advance_received, deliver_elsewhere}
use Rattle.cmb_kernel.proofs.EventsLead.{lead_sound}
use Rattle.cmb_kernel.proofs.Sweeping.{pins_exist, catching_up_leads, swept_net_is, net_sweep_leads}
use Rattle.cmb_kernel.proofs.SweepLoops.{knows_enough}

module _ (circuit : Circuit) (ok : IsCircuit circuit) (last tick pin : ℕ) (exists : pin < pin_count circuit) where
  taking_elsewhere : (other : ℕ) → other < pin_count circuit → (pin ≡ other → ⊥) → (messages : List Message) (state : State) →
      IsSound circuit last state → received_at (taken_below tick other state messages) pin ≡ received_at state pin
  taking_elsewhere other there apart [] state sound = refl
  taking_elsewhere other there apart (message ∷ messages) state sound =
      go (nat_lt (received_at state other) tick)
      (taking_elsewhere other there apart messages (step state (Deliver other)) (step_sound circuit ok last state (Deliver other) sound there)
      ∙ deliver_elsewhere circuit ok last state sound other pin there exists apart)
    where
      go : (early : Bool) → received_at (taken_below tick other (step state (Deliver other)) messages) pin ≡ received_at state pin →
          received_at (cond early (taken_below tick other (step state (Deliver other)) messages) state) pin ≡ received_at state pin
      go true later = later
      go false later = refl

  catching_up_leaves : (other : ℕ) → other < pin_count circuit → (state : State) → IsSound circuit last state → tick ≤ received_at state pin →
      received_at (caught_up tick state other) pin ≡ received_at state pin
  catching_up_leaves other there state sound enough = go (cases_eq pin other)
    where
      go : (pin ≡ other) ⊎ (pin ≡ other → ⊥) → received_at (caught_up tick state other) pin ≡ received_at state pin
      go (inl is) =
          ap (λ n. received_at (caught_up tick state n) pin) (sym is) ∙ ap (λ s. received_at s pin) (knows_enough tick state pin enough)
      go (inr apart) = taking_elsewhere other there apart (waiting_at state other) state sound

  all_catching_up_leaves : (pins : List ℕ) (state : State) → IsSound circuit last state → All (λ n. n < pin_count circuit) pins →
      tick ≤ received_at state pin → received_at (all_caught_up tick state pins) pin ≡ received_at state pin
  all_catching_up_leaves [] state sound exist enough = refl
  all_catching_up_leaves (other ∷ pins) state sound exist enough =
      let there = All-head (λ n. n < pin_count circuit) other pins exist in
      let same = catching_up_leaves other there state sound enough in
      all_catching_up_leaves pins (caught_up tick state other) (lead_sound circuit ok last (catching_up_leads circuit tick state other there) sound)
      (All-tail (λ n. n < pin_count circuit) other pins exist) (omega (arith, same, enough))
      ∙ same

  net_sweep_leaves : (net : ℕ) → (state : State) → IsSound circuit last state → tick ≤ received_at state pin →
      received_at (swept_net tick state net) pin ≡ received_at state pin
  net_sweep_leaves net state sound enough =
      ap (λ s. received_at s pin) (swept_net_is circuit last tick state net sound)
      ∙ advance_received (all_caught_up tick state (pin_numbers circuit net)) net pin
      ∙ all_catching_up_leaves (pin_numbers circuit net) state sound (pins_exist circuit net) enough

  pub sweep_leaves : (order : List ℕ) (state : State) → IsSound circuit last state → All (λ net. net < length circuit) order →
      tick ≤ received_at state pin → received_at (swept tick order state) pin ≡ received_at state pin
  sweep_leaves [] state sound exist enough = refl
  sweep_leaves (net ∷ order) state sound exist enough =
      let same = net_sweep_leaves net state sound enough in
      sweep_leaves order (swept_net tick state net)
      (lead_sound circuit ok last (net_sweep_leads circuit last tick state net sound (All-head (λ n. n < length circuit) net order exist)) sound)
      (All-tail (λ n. n < length circuit) net order exist) (omega (arith, same, enough))
      ∙ same
