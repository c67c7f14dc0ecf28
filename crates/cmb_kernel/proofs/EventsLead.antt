-- What events that lead from one state to another keep.
use Rattle.std.proofs.Common.{◌≡◌, ℕ, ◌≤◌, List, [], ◌∷◌, ◌++◌, All, refl, ap, sym, subst, ◌∙◌, arith}
use Rattle.std.proofs.lemmas.List.Elements.{All-nil, All-cons, All-head, All-tail, All-append}
use Rattle.design.specs.Circuit.{Circuit, IsCircuit}
use Rattle.cmb_events.specs.declared.event.Event.{Event}
use Rattle.cmb_events.specs.Schedule.{Exists}
use Rattle.cmb_kernel.specs.State.{State, frontier_at, floor_at, received_at}
use Rattle.cmb_kernel.specs.Step.{step, steps}
use Rattle.cmb_kernel.specs.Sweeps.{EventsLead}
use Rattle.cmb_kernel.specs.Useful.{NoneFalls}
use Rattle.cmb_kernel.specs.Sound.{IsSound}
use Rattle.cmb_kernel.proofs.Soundness.{step_sound, steps_sound}
use Rattle.cmb_kernel.proofs.LeastFrontier.{join, steps-append, frontiers_rise}
use Rattle.cmb_kernel.proofs.Mixed.{steps_floor}
use Rattle.cmb_kernel.proofs.Rises.{none_falls}

module _ (circuit : Circuit) where
  -- ---- from where to where they lead

  pub leads_nowhere : (state : State) → EventsLead circuit state state
  leads_nowhere state = record { events = []; exist = All-nil (Exists circuit); leads = refl }

  pub event_leads : (state : State) (event : Event) → Exists circuit event → EventsLead circuit state (step state event)
  event_leads state event exists = record {
    events = event ∷ [];
    exist = All-cons (Exists circuit) event [] exists (All-nil (Exists circuit));
    leads = refl;
  }

  pub leads_on : {one two three : State} → EventsLead circuit one two → EventsLead circuit two three → EventsLead circuit one three
  leads_on {one} first later = record {
    events = first.events ++ later.events;
    exist = All-append (Exists circuit) first.events later.events first.exist later.exist;
    leads = steps-append one first.events later.events ∙ ap (λ s. steps s later.events) first.leads ∙ later.leads;
  }

  -- ---- what they keep

  pub lead_floor : {old new : State} → EventsLead circuit old new → (net : ℕ) → floor_at new net ≡ floor_at old net
  lead_floor {old} lead net = sym (ap (λ s. floor_at s net) lead.leads) ∙ steps_floor old lead.events net

  module _ (ok : IsCircuit circuit) (last : ℕ) where
    pub lead_sound : {old new : State} → EventsLead circuit old new → IsSound circuit last old → IsSound circuit last new
    lead_sound {old} lead sound =
        subst (IsSound circuit last) lead.leads (steps_sound circuit ok last old lead.events sound lead.exist)

    pub lead_frontier : {old new : State} → EventsLead circuit old new → IsSound circuit last old → (net : ℕ) → frontier_at old net ≤ frontier_at new net
    lead_frontier {old} lead sound net =
        subst (λ s. frontier_at old net ≤ frontier_at s net) lead.leads
        (frontiers_rise circuit ok last old lead.events sound lead.exist net)

    steps_received : (state : State) (events : List Event) → IsSound circuit last state → All (Exists circuit) events → (pin : ℕ) →
        received_at state pin ≤ received_at (steps state events) pin
    steps_received state [] sound exist pin = omega arith
    steps_received state (event ∷ events) sound exist pin =
        let there = All-head (Exists circuit) event events exist in
        let now = (none_falls circuit ok last state sound event there).pins pin in
        let later = steps_received (step state event) events (step_sound circuit ok last state event sound there)
        (All-tail (Exists circuit) event events exist) pin in
        join (received_at state pin) _ _ now later

    pub lead_received : {old new : State} → EventsLead circuit old new → IsSound circuit last old → (pin : ℕ) → received_at old pin ≤ received_at new pin
    lead_received {old} lead sound pin =
        subst (λ s. received_at old pin ≤ received_at s pin) lead.leads (steps_received old lead.events sound lead.exist pin)

    pub lead_falls : {old new : State} → EventsLead circuit old new → IsSound circuit last old → NoneFalls old new
    lead_falls lead sound = record { nets = lead_frontier lead sound; pins = lead_received lead sound }
