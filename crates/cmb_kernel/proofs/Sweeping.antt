-- A sweep is events, and brings the least frontier at least the least delay farther, or to the end.
use Rattle.std.proofs.Common.{◌≡◌, ℕ, zero, suc, ◌+◌, ◌<◌, ◌≤◌, min, nat_lt, Bool, true, false, cond, List, [], ◌∷◌, map, length, drop, Option, None, Some, slice_get, All, refl, ap, sym, subst, ◌∙◌, arith, ltb-false}
use Rattle.std.specs.List.{range_with_len, Contains}
use Rattle.std.specs.Option.{option_map_or}
use Rattle.std.proofs.lemmas.List.Elements.{All-nil, All-cons, All-head, All-tail}
use Rattle.std.proofs.lemmas.List.FromFn.{length-range_with_len, get_or-range_with_len}
use Rattle.std.proofs.lemmas.Option.{slice_get_within}
use Rattle.design.specs.Circuit.{Net, Circuit, IsCircuit, pin_count}
use Rattle.design.specs.Pins.{first_pin, net_of_pin, place_of_pin}
use Rattle.design.proofs.CallerLemmas.{pin_is}
use Rattle.cmb_channels.specs.declared.message.Message.{Message}
use Rattle.gate_process.specs.Step.{ProcessState}
use Rattle.gate_process.proofs.CallerLemmas.{get_below, least-bound}
use Rattle.cmb_events.specs.declared.event.Event.TheVariants.{Deliver, Advance}
use Rattle.cmb_kernel.specs.State.{State, frontier_at, received_at, least_frontier, least_delay, waiting_at}
use Rattle.cmb_kernel.specs.Step.{step}
use Rattle.cmb_kernel.specs.Sweeps.{pin_numbers, taken_below, caught_up, all_caught_up, swept_net, swept, AllKnow, HoldsAll, EventsLead}
use Rattle.cmb_kernel.specs.Sound.{IsSound}
use Rattle.cmb_kernel.proofs.Soundness.{net_at, step_sound}
use Rattle.cmb_kernel.proofs.LeastFrontier.{join, deliver_there, NetKnows, pin_knows, net_count, advances_farther, least_frontier-le, least_frontier_greatest}
use Rattle.cmb_kernel.proofs.PinPlaces.{pin_exists, received_there}
use Rattle.cmb_kernel.proofs.EventsLead.{leads_nowhere, event_leads, leads_on, lead_sound, lead_frontier, lead_received}

-- ---- the pins of a net

-- how many pins a net has
pin_numbers_count : (circuit : Circuit) (number : ℕ) (net : Net) → slice_get circuit number ≡ Some net →
    pin_numbers circuit number ≡ range_with_len (first_pin circuit number) (length net.pins)
pin_numbers_count circuit number net at =
    ap (λ found. range_with_len (first_pin circuit number) (option_map_or (λ (n : Net). length n.pins) found 0)) at

holds_pin : (circuit : Circuit) (number place : ℕ) (net : Net) → slice_get circuit number ≡ Some net → place < length net.pins →
    Contains (pin_numbers circuit number) (first_pin circuit number + place)
holds_pin circuit number place net at within =
    subst (λ pins. Contains pins (first_pin circuit number + place)) (sym (pin_numbers_count circuit number net at)) (
      place,
      (let l = length-range_with_len (first_pin circuit number) (length net.pins) in omega (arith, within, l)),
      get_or-range_with_len (first_pin circuit number) (length net.pins) place (first_pin circuit number + place) within,
    )

pub pins_exist : (circuit : Circuit) (number : ℕ) → All (λ pin. pin < pin_count circuit) (pin_numbers circuit number)
pins_exist circuit number = go (slice_get circuit number) refl
  where
    go : (found : Option Net) → slice_get circuit number ≡ found → All (λ pin. pin < pin_count circuit) (pin_numbers circuit number)
    go None none =
        subst (All (λ pin. pin < pin_count circuit))
        (sym (ap (λ found. range_with_len (first_pin circuit number) (option_map_or (λ (n : Net). length n.pins) found 0)) none))
        (All-nil (λ pin. pin < pin_count circuit))
    go (Some net) at =
        subst (All (λ pin. pin < pin_count circuit)) (sym (pin_numbers_count circuit number net at)) (λ place d h.
        let l = length-range_with_len (first_pin circuit number) (length net.pins) in
        let within : place < length net.pins = omega (arith, h, l) in
        subst (λ pin. pin < pin_count circuit) (sym (get_or-range_with_len (first_pin circuit number) (length net.pins) place d within))
        (pin_exists circuit number place net at within))

-- ---- a sweep is events

module _ (circuit : Circuit) where
  taking_leads : (tick pin : ℕ) (state : State) (messages : List Message) → pin < pin_count circuit →
      EventsLead circuit state (taken_below tick pin state messages)
  taking_leads tick pin state [] exists = leads_nowhere circuit state
  taking_leads tick pin state (message ∷ messages) exists =
      go (nat_lt (received_at state pin) tick)
      (leads_on circuit (event_leads circuit state (Deliver pin) exists) (taking_leads tick pin (step state (Deliver pin)) messages exists))
    where
      go : (early : Bool) → EventsLead circuit state (taken_below tick pin (step state (Deliver pin)) messages) →
          EventsLead circuit state (cond early (taken_below tick pin (step state (Deliver pin)) messages) state)
      go true taken = taken
      go false taken = leads_nowhere circuit state

  pub catching_up_leads : (tick : ℕ) (state : State) (pin : ℕ) → pin < pin_count circuit → EventsLead circuit state (caught_up tick state pin)
  catching_up_leads tick state pin = taking_leads tick pin state (waiting_at state pin)

  pub all_catching_up_leads : (tick : ℕ) (state : State) (pins : List ℕ) → All (λ pin. pin < pin_count circuit) pins →
      EventsLead circuit state (all_caught_up tick state pins)
  all_catching_up_leads tick state [] exist = leads_nowhere circuit state
  all_catching_up_leads tick state (pin ∷ pins) exist =
      leads_on circuit (catching_up_leads tick state pin (All-head (λ pin. pin < pin_count circuit) pin pins exist))
      (all_catching_up_leads tick (caught_up tick state pin) pins (All-tail (λ pin. pin < pin_count circuit) pin pins exist))

  -- the pins are those of the circuit
  pub swept_net_is : (last tick : ℕ) (state : State) (net : ℕ) → IsSound circuit last state →
      swept_net tick state net ≡ step (all_caught_up tick state (pin_numbers circuit net)) (Advance net)
  swept_net_is last tick state net sound =
      ap (λ nets. step (all_caught_up tick state (pin_numbers nets net)) (Advance net)) sound.nets

  pub net_sweep_leads : (last tick : ℕ) (state : State) (net : ℕ) → IsSound circuit last state → net < length circuit →
      EventsLead circuit state (swept_net tick state net)
  net_sweep_leads last tick state net sound exists =
      subst (EventsLead circuit state) (sym (swept_net_is last tick state net sound))
      (leads_on circuit (all_catching_up_leads tick state (pin_numbers circuit net) (pins_exist circuit net))
      (event_leads circuit (all_caught_up tick state (pin_numbers circuit net)) (Advance net) exists))

  pub sweep_leads : IsCircuit circuit → (last tick : ℕ) (order : List ℕ) (state : State) → IsSound circuit last state →
      All (λ net. net < length circuit) order → EventsLead circuit state (swept tick order state)
  sweep_leads ok last tick [] state sound exist = leads_nowhere circuit state
  sweep_leads ok last tick (net ∷ order) state sound exist =
      let first = net_sweep_leads last tick state net sound (All-head (λ net. net < length circuit) net order exist) in
      leads_on circuit first
      (sweep_leads ok last tick order (swept_net tick state net) (lead_sound circuit ok last first sound)
      (All-tail (λ net. net < length circuit) net order exist))

pub sweep_sound : (circuit : Circuit) → IsCircuit circuit → (last tick : ℕ) (order : List ℕ) (state : State) → IsSound circuit last state →
    All (λ net. net < length circuit) order → IsSound circuit last (swept tick order state)
sweep_sound circuit ok last tick order state sound exist =
    lead_sound circuit ok last (sweep_leads circuit ok last tick order state sound exist) sound

-- ---- what pins know after they caught up

module _ (circuit : Circuit) (ok : IsCircuit circuit) (last : ℕ) where
  module _ (low tick : ℕ) (in_time : low ≤ tick) where
    -- where no message waits
    idle_knows : (state : State) → IsSound circuit last state → AllKnow circuit low state → (pin : ℕ) → pin < pin_count circuit →
        waiting_at state pin ≡ [] → low ≤ received_at state pin
    idle_knows state sound all pin exists empty =
        let there = pin_is circuit pin exists in
        let nets = net_count circuit last state sound in
        let below = slice_get_within circuit (net_of_pin circuit pin) there.net there.at in
        let process = get_below state.processes (net_of_pin circuit pin) (omega (arith, nets, below)) in
        let own = net_at circuit ok last state sound (net_of_pin circuit pin) process.0 process.1 in
        let same : there.net ≡ (process.0).net = (let a = there.at in cc) in
        let long = ap (λ (n : Net). length n.pins) same in
        let pins = (sound.processes (net_of_pin circuit pin) process.0 process.1).pins in
        let within = there.within in
        let received = get_below (process.0).received (place_of_pin circuit pin) (omega (arith, long, pins, within)) in
        let known = pin_knows circuit last low state sound ok (net_of_pin circuit pin) (place_of_pin circuit pin)
        (ap (waiting_at state) there.number_is ∙ empty) all process.0 received.0 process.1 received.1 in
        let is = received_there circuit ok last state sound (net_of_pin circuit pin) (place_of_pin circuit pin) process.0 received.0 process.1 received.1 in
        subst (λ n. low ≤ received_at state n) there.number_is
        (let at_least : low ≤ received_at state (first_pin circuit (net_of_pin circuit pin) + place_of_pin circuit pin) = omega (arith, known, is) in at_least)

    known_on : {old new : State} → EventsLead circuit old new → IsSound circuit last old → AllKnow circuit low old → AllKnow circuit low new
    known_on {old} {new} lead sound all = λ number below.
        join low (frontier_at old number) (frontier_at new number) (all number below) (lead_frontier circuit ok last lead sound number)

    taking_knows : (pin : ℕ) → pin < pin_count circuit → (messages : List Message) (state : State) → IsSound circuit last state → AllKnow circuit low state →
        waiting_at state pin ≡ messages → low ≤ received_at (taken_below tick pin state messages) pin
    taking_knows pin exists [] state sound all waiting = idle_knows state sound all pin exists waiting
    taking_knows pin exists (message ∷ messages) state sound all waiting =
        go (nat_lt (received_at state pin) tick) refl
        (taking_knows pin exists messages (step state (Deliver pin)) (step_sound circuit ok last state (Deliver pin) sound exists)
        (known_on (event_leads circuit state (Deliver pin) exists) sound all)
        (deliver_there state pin (let l = sound.lists in omega (arith, l, exists)) ∙ ap (λ ms. drop 1 ms) waiting))
      where
        go : (early : Bool) → nat_lt (received_at state pin) tick ≡ early →
            low ≤ received_at (taken_below tick pin (step state (Deliver pin)) messages) pin →
            low ≤ received_at (cond early (taken_below tick pin (step state (Deliver pin)) messages) state) pin
        go true e later = later
        go false e later = let enough = ltb-false (received_at state pin) tick e in omega (arith, enough, in_time)

    all_catching_up_knows : (pins : List ℕ) (state : State) → IsSound circuit last state → AllKnow circuit low state →
        All (λ pin. pin < pin_count circuit) pins → (pin : ℕ) → Contains pins pin → low ≤ received_at (all_caught_up tick state pins) pin
    all_catching_up_knows [] state sound all exist pin (place, h, is) = absurd (omega (arith, h))
    all_catching_up_knows (first ∷ pins) state sound all exist pin (zero, h, is) =
        let there = All-head (λ pin. pin < pin_count circuit) first pins exist in
        let lead = catching_up_leads circuit tick state first there in
        let now = taking_knows first there (waiting_at state first) state sound all refl in
        let later = lead_received circuit ok last
        (all_catching_up_leads circuit tick (caught_up tick state first) pins (All-tail (λ pin. pin < pin_count circuit) first pins exist))
        (lead_sound circuit ok last lead sound) first in
        subst (λ p. low ≤ received_at (all_caught_up tick (caught_up tick state first) pins) p) is (join low _ _ now later)
    all_catching_up_knows (first ∷ pins) state sound all exist pin (suc place, h, is) =
        let lead = catching_up_leads circuit tick state first (All-head (λ pin. pin < pin_count circuit) first pins exist) in
        all_catching_up_knows pins (caught_up tick state first) (lead_sound circuit ok last lead sound) (known_on lead sound all)
        (All-tail (λ pin. pin < pin_count circuit) first pins exist) pin (place, omega (arith, h), is)

    net_knows : (state : State) → IsSound circuit last state → (number : ℕ) →
        ((pin : ℕ) → Contains (pin_numbers circuit number) pin → low ≤ received_at state pin) → NetKnows low state number
    net_knows state sound number each place process received a b =
        let own = net_at circuit ok last state sound number process a in
        let pins = (sound.processes number process a).pins in
        let inside = slice_get_within process.received place received b in
        let known = each (first_pin circuit number + place)
        (holds_pin circuit number place process.net own (omega (arith, pins, inside))) in
        let is = received_there circuit ok last state sound number place process received a b in
        omega (arith, known, is)

    -- ---- how far nets come

    net_farther : low ≤ last → (state : State) → IsSound circuit last state → AllKnow circuit low state → (net : ℕ) → net < length circuit →
        min last (low + least_delay last circuit) ≤ frontier_at (swept_net tick state net) net
    net_farther within state sound all net exists =
        let lead = all_catching_up_leads circuit tick state (pin_numbers circuit net) (pins_exist circuit net) in
        let after = lead_sound circuit ok last lead sound in
        let knows = net_knows (all_caught_up tick state (pin_numbers circuit net)) after net
        (all_catching_up_knows (pin_numbers circuit net) state sound all (pins_exist circuit net)) in
        subst (λ s. min last (low + least_delay last circuit) ≤ frontier_at s net) (sym (swept_net_is circuit last tick state net sound))
        (advances_farther circuit last low (all_caught_up tick state (pin_numbers circuit net)) net after ok within knows exists)

    -- a net is the least delay farther, or at the end
    abbrev pub IsFarther : State → ℕ → Type 0
    IsFarther state net = min last (low + least_delay last circuit) ≤ frontier_at state net

    pub sweep_farther : low ≤ last → (order : List ℕ) (state : State) → IsSound circuit last state → AllKnow circuit low state →
        All (λ net. net < length circuit) order → All (IsFarther (swept tick order state)) order
    sweep_farther within [] state sound all exist = All-nil (IsFarther state)
    sweep_farther within (first ∷ order) state sound all exist =
        let there = All-head (λ net. net < length circuit) first order exist in
        let others = All-tail (λ net. net < length circuit) first order exist in
        let lead = net_sweep_leads circuit last tick state first sound there in
        let after = lead_sound circuit ok last lead sound in
        let now = net_farther within state sound all first there in
        let later = lead_frontier circuit ok last (sweep_leads circuit ok last tick order (swept_net tick state first) after others) after first in
        All-cons (IsFarther (swept tick order (swept_net tick state first))) first order
        (join (min last (low + least_delay last circuit)) _ _ now later)
        (sweep_farther within order (swept_net tick state first) after (known_on lead sound all) others)

-- what holds of each of a list, holds of what it contains
pub of_contained : (P : ℕ → Type 0) (numbers : List ℕ) → All P numbers → (number : ℕ) → Contains numbers number → P number
of_contained P numbers each number (place, h, is) = subst P is (each place number h)

-- a sweep over all nets to a tick that is not below the least frontier
pub sweep_raises : (circuit : Circuit) → IsCircuit circuit → (last : ℕ) (state : State) → IsSound circuit last state → (tick : ℕ) (order : List ℕ) →
    All (λ net. net < length circuit) order → HoldsAll circuit order → least_frontier last state ≤ tick →
    min last (least_frontier last state + least_delay last circuit) ≤ least_frontier last (swept tick order state)
sweep_raises circuit ok last state sound tick order exist holds in_time =
    let within = least-bound last (map (λ (p : ProcessState). p.known.frontier) state.processes) in
    least_frontier_greatest circuit last (min last (least_frontier last state + least_delay last circuit)) (swept tick order state)
    (sweep_sound circuit ok last tick order state sound exist) (omega arith)
    (λ net below.
    of_contained (IsFarther circuit ok last (least_frontier last state) tick in_time (swept tick order state)) order
    (sweep_farther circuit ok last (least_frontier last state) tick in_time within order state sound
    (λ number h. least_frontier-le circuit last state sound number h) exist) net (holds net below))
