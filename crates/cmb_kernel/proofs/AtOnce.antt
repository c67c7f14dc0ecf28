-- What a pin that takes messages at once makes of a run: what it makes of it one by one.
use Rattle.std.proofs.Common.{◌≡◌, ℕ, zero, suc, ◌+◌, ◌<◌, ◌≤◌, nat_lt, Bool, true, false, cond, List, [], ◌∷◌, map, take, drop, length, Some, slice_get, slice_index_or, slice_set, refl, ap, sym, subst, ◌∙◌, arith}
use Rattle.std.specs.Option.{option_map_or}
use Rattle.std.proofs.lemmas.List.{set-set, set-get_or}
use Rattle.design.specs.Circuit.{Circuit, pin_count}
use Rattle.design.specs.Design.{DesignView}
use Rattle.design.specs.Equations.{value_of}
use Rattle.design.specs.Pins.{first_pin, net_of_pin, place_of_pin}
use Rattle.design.proofs.CallerLemmas.{pin_is}
use Rattle.cmb_channels.specs.declared.message.Message.{Message}
use Rattle.cmb_channels.specs.Lists.{update, taken, taken_many}
use Rattle.cmb_channels.proofs.CallerLemmas.{get_update_same, length-taken, map-update, taken_at, view_at}
use Rattle.gate_process.specs.Knowledge.{Knowledge, told, known_after, wanted, Tells}
use Rattle.gate_process.specs.Step.{ProcessState, ProcessView, running, kept, heard, heard_all, wanted_at, wanted_messages}
use Rattle.gate_process.specs.Truth.{CanHearAll}
use Rattle.gate_process.proofs.CallerLemmas.{can_hear_all, can_hear_first, get_below, known_after-told, wanted_there, wanted-le}
use Rattle.cmb_events.specs.declared.event.Event.TheVariants.{Deliver}
use Rattle.cmb_kernel.specs.declared.counts.Counts.{Counts}
use Rattle.cmb_kernel.specs.State.{State, nets_of, frontier_at, received_of, received_at, waiting_at}
use Rattle.cmb_kernel.specs.Step.{counted, counted_silent, after_deliver, step}
use Rattle.cmb_kernel.specs.Sweeps.{taken_below, caught_up}
use Rattle.cmb_kernel.specs.Sound.{IsSound}
use Rattle.cmb_kernel.specs.Running.{state_of, IsRunning}
use Rattle.cmb_kernel.proofs.Silent.{silent_sent}
use Rattle.cmb_kernel.proofs.Soundness.{meets_at, net_at}
use Rattle.cmb_kernel.proofs.Measure.{feeder_within}
use Rattle.cmb_kernel.proofs.Running.{circuit_ok, place_within, runs_at}
use Rattle.cmb_kernel.proofs.Applied.{changed, changed_runs, changed_frontiers}
use Rattle.cmb_kernel.proofs.EventsLead.{lead_sound}
use Rattle.cmb_kernel.proofs.Sweeping.{catching_up_leads}

-- ---- lists

update-twice : {A : Type 0} (first later : A → A) (place : ℕ) (xs : List A) →
    update later place (update first place xs) ≡ update (λ x. later (first x)) place xs
update-twice first later place [] = refl
update-twice first later zero (x ∷ xs) = refl
update-twice first later (suc place) (x ∷ xs) = ap (λ ys. x ∷ ys) (update-twice first later place xs)

update-none : {A : Type 0} (place : ℕ) (xs : List A) → update (λ x. x) place xs ≡ xs
update-none place [] = refl
update-none zero (x ∷ xs) = refl
update-none (suc place) (x ∷ xs) = ap (λ ys. x ∷ ys) (update-none place xs)

-- ---- a pin and the process of its net

-- in a state of a circuit, the process of a net and what a pin of it received
record Finds (circuit : Circuit) (pin net place : ℕ) (state : State) (process : ProcessState) (known : Knowledge) : Type 0 where
  nets : nets_of state ≡ circuit
  below : pin < length state.lists
  at : slice_get state.processes net ≡ Some process
  received : slice_get process.received place ≡ Some known

-- the state after a pin took so many of these messages, which wait there, at once
abbrev at_once : ℕ → ℕ → ℕ → State → ℕ → List Message → State
at_once pin net place state count messages = record {
  processes = update (heard_all place (take count messages)) net state.processes;
  lists = taken_many count pin state.lists;
  counts = counted_silent count state.counts;
}

module _ (circuit : Circuit) (tick pin net place : ℕ) (net_is : net ≡ net_of_pin circuit pin) (place_is : place ≡ place_of_pin circuit pin) where
  received_is : (state : State) (process : ProcessState) (known : Knowledge) → Finds circuit pin net place state process known →
      received_at state pin ≡ known.frontier
  received_is state process known finds =
      ap (λ c. option_map_or (λ (p : ProcessState). received_of p (place_of_pin c pin)) (slice_get state.processes (net_of_pin c pin)) 0) finds.nets
      ∙ ap (λ n. option_map_or (λ (p : ProcessState). received_of p (place_of_pin circuit pin)) (slice_get state.processes n) 0) (sym net_is)
      ∙ ap (λ n. option_map_or (λ (p : ProcessState). received_of p n) (slice_get state.processes net) 0) (sym place_is)
      ∙ ap (λ found. option_map_or (λ (p : ProcessState). received_of p place) found 0) finds.at
      ∙ view_at (λ (k : Knowledge). k.frontier) process.received place known finds.received

  -- where it takes none
  none_at_once : (state : State) (messages : List Message) → at_once pin net place state 0 messages ≡ state
  none_at_once state messages =
      let processes = update-none net state.processes in
      let lists = set-get_or state.lists pin [] in
      λ i. record { processes = processes i; lists = lists i; counts = state.counts }

  module _ (state : State) (message : Message) (messages : List Message) (waiting : waiting_at state pin ≡ message ∷ messages) where
    -- the state after it took the first
    next : State
    next = record {
      processes = update (heard place message) net state.processes;
      lists = taken pin state.lists;
      counts = counted state.counts [];
    }

    next_is : nets_of state ≡ circuit → step state (Deliver pin) ≡ next
    unfolding next
    next_is nets =
        ap (after_deliver state pin) waiting
        ∙ (λ i. record {
          processes = update (heard (place_of_pin (nets i) pin) message) (net_of_pin (nets i) pin) state.processes;
          lists = taken pin state.lists;
          counts = counted state.counts [];
        })
        ∙ (λ i. record {
          processes = update (heard (sym place_is i) message) (sym net_is i) state.processes;
          lists = taken pin state.lists;
          counts = counted state.counts [];
        })

    module _ (process : ProcessState) (known : Knowledge) (finds : Finds circuit pin net place state process known) where
      next_waits : waiting_at next pin ≡ messages
      unfolding next
      next_waits = taken_at pin state.lists finds.below ∙ ap (λ ms. drop 1 ms) waiting

      next_finds : Finds circuit pin net place next (heard place message process) (kept process place (told known message))
      unfolding next
      next_finds = record {
        nets = map-update (λ (p : ProcessState). p.net) (heard place message) net state.processes (λ p. refl) ∙ finds.nets;
        below = let long = length-taken pin state.lists in let below = finds.below in omega arith;
        at = get_update_same (heard place message) net state.processes process finds.at;
        received = get_update_same (λ (k : Knowledge). kept process place (told k message)) place process.received known finds.received;
      }

      -- one more at once
      more_at_once : (count : ℕ) → at_once pin net place next count messages ≡ at_once pin net place state (suc count) (message ∷ messages)
      unfolding next
      more_at_once count =
          let processes = update-twice (heard place message) (heard_all place (take count messages)) net state.processes in
          let lists : taken_many count pin (taken pin state.lists) ≡ taken_many (suc count) pin state.lists =
          ap (λ ms. slice_set (taken pin state.lists) pin (drop count ms)) next_waits
          ∙ set-set state.lists pin _ (drop count messages)
          ∙ ap (λ ms. slice_set state.lists pin (drop (suc count) ms)) (sym waiting) in
          λ i. record { processes = processes i; lists = lists i; counts = counted_silent (suc count) state.counts }

  -- one by one and at once
  taken_is : (messages : List Message) (state : State) (process : ProcessState) (known : Knowledge) → Finds circuit pin net place state process known →
      waiting_at state pin ≡ messages →
      taken_below tick pin state messages ≡ at_once pin net place state (wanted tick known.frontier messages) messages
  taken_is [] state process known finds waiting = sym (none_at_once state [])
  taken_is (message ∷ messages) state process known finds waiting =
      ap (λ n. cond (nat_lt n tick) (taken_below tick pin (step state (Deliver pin)) messages) state) (received_is state process known finds)
      ∙ go (nat_lt known.frontier tick)
      (taken_is messages (next state message messages waiting) (heard place message process) (kept process place (told known message))
      (next_finds state message messages waiting process known finds) (next_waits state message messages waiting process known finds))
    where
      go : (early : Bool) →
          taken_below tick pin (next state message messages waiting) messages
          ≡ at_once pin net place (next state message messages waiting) (wanted tick (told known message).frontier messages) messages →
          cond early (taken_below tick pin (step state (Deliver pin)) messages) state
          ≡ at_once pin net place state (cond early (suc (wanted tick (known_after message) messages)) 0) (message ∷ messages)
      go true rest =
          ap (λ s. taken_below tick pin s messages) (next_is state message messages waiting finds.nets) ∙ rest
          ∙ ap (λ n. at_once pin net place (next state message messages waiting) (wanted tick n messages) messages) (sym (known_after-told known message))
          ∙ more_at_once state message messages waiting process known finds (wanted tick (known_after message) messages)
      go false rest = sym (none_at_once state (message ∷ messages))

-- ---- the parts of a running kernel

heard_all_frontier : (place : ℕ) (messages : List Message) (process : ProcessState) →
    (heard_all place messages process).known.frontier ≡ process.known.frontier
heard_all_frontier place [] process = refl
heard_all_frontier place (message ∷ messages) process = heard_all_frontier place messages (heard place message process)

module _ {design : DesignView} {end : ℕ} {processes : List ProcessView} {sources : List ℕ} {nets : ℕ} {lists : List (List Message)}
    {counts : Counts} (all : IsRunning design end processes sources nets (state_of processes lists counts)) where
  module _ (pin net place : ℕ) (exists : pin < pin_count design.circuit) (net_is : net ≡ net_of_pin design.circuit pin)
      (place_is : place ≡ place_of_pin design.circuit pin) (process : ProcessView) (is : slice_get processes net ≡ Some process) where
    here : slice_get (map (λ (p : ProcessView). p.state) processes) net ≡ Some process.state
    here = (runs_at all net process is).at

    inside : place < length process.state.received
    inside = subst (λ n. n < length process.state.received) (sym place_is) (place_within all pin net process exists net_is is)

    -- what waits at the pin, by its net and its place there
    there : first_pin design.circuit net + place ≡ pin
    there = (λ i. first_pin design.circuit (net_is i) + place_is i) ∙ (pin_is design.circuit pin exists).number_is

    pub can_take : (tick : ℕ) → CanHearAll process.state place (wanted_messages tick process.state place (slice_index_or lists pin []))
    can_take tick =
        let ok = circuit_ok all in
        let state = state_of processes lists counts in
        let received = get_below process.state.received place inside in
        let knows = all.sound.processes net process.state here in
        let pins = knows.pins in
        let own = inside in
        let source = get_below process.state.net.pins place (omega (arith, pins, own)) in
        let tells = subst (λ n. Tells (value_of design.circuit source.0) (received.0).frontier (frontier_at state source.0) (slice_index_or lists n [])) there
        (all.sound.waiting net place source.0 process.state received.0 here source.1 received.1) in
        let high = feeder_within design.circuit ok end state all.sound net place source.0 process.state here source.1 in
        let last = all.sound.ends net process.state here in
        can_hear_first process.state place (wanted_at tick process.state place (slice_index_or lists pin [])) (slice_index_or lists pin [])
        (can_hear_all (value_of design.circuit) net process.state place source.0 (frontier_at state source.0) received.0 (slice_index_or lists pin [])
        (meets_at design.circuit ok net process.state.net (net_at design.circuit ok end state all.sound net process.state here)) knows source.1 received.1 tells
        (omega (arith, high, last)))

    module _ (tick count : ℕ) (count_is : count ≡ wanted_at tick process.state place (slice_index_or lists pin [])) where
      -- what the process hears
      messages : List Message
      messages = wanted_messages tick process.state place (slice_index_or lists pin [])

      pub few_taken : count ≤ length (slice_index_or lists pin [])
      few_taken =
          let received = get_below process.state.received place inside in
          let known = wanted_there tick process.state place received.0 (slice_index_or lists pin []) received.1 in
          let few = wanted-le tick (received.0).frontier (slice_index_or lists pin []) in
          omega arith

      pub taken_at_once : state_of (slice_set processes net (running (heard_all place (wanted_messages tick process.state place (slice_index_or lists pin [])) process.state)))
          (taken_many count pin lists) (counted_silent count counts)
          ≡ caught_up tick (state_of processes lists counts) pin
      taken_at_once =
          let waiting = slice_index_or lists pin [] in
          let received = get_below process.state.received place inside in
          let known = wanted_there tick process.state place received.0 waiting received.1 in
          let all_lists = all.sound.lists in
          ap (λ ps. record { processes = ps; lists = taken_many count pin lists; counts = counted_silent count counts })
          (changed all net process is (heard_all place (wanted_messages tick process.state place waiting)))
          ∙ ap (λ n. record {
            processes = update (heard_all place (wanted_messages tick process.state place waiting)) net (map (λ (p : ProcessView). p.state) processes);
            lists = taken_many n pin lists;
            counts = counted_silent n counts;
          }) count_is
          ∙ ap (λ n. at_once pin net place (state_of processes lists counts) n waiting) known
          ∙ sym (taken_is design.circuit tick pin net place net_is place_is waiting (state_of processes lists counts) process.state received.0
          (record { nets = all.sound.nets; below = omega arith; at = here; received = received.1 }) refl)

      pub all_taken : IsRunning design end
          (slice_set processes net (running (heard_all place (wanted_messages tick process.state place (slice_index_or lists pin [])) process.state))) sources nets
          (state_of (slice_set processes net (running (heard_all place (wanted_messages tick process.state place (slice_index_or lists pin [])) process.state)))
          (taken_many count pin lists) (counted_silent count counts))
      all_taken =
          let change = heard_all place (wanted_messages tick process.state place (slice_index_or lists pin [])) in
          let lead = catching_up_leads design.circuit tick (state_of processes lists counts) pin exists in
          record {
            well_formed = all.well_formed;
            within = all.within;
            all_run = changed_runs all net process is change;
            feeds = all.feeds;
            all_nets = all.all_nets;
            messages =
                let sum = all.messages in
                let frontiers = changed_frontiers all net process is change in
                let same = heard_all_frontier place (wanted_messages tick process.state place (slice_index_or lists pin [])) process.state in
                let sent = silent_sent count counts in
                omega (arith, sum, frontiers, same, sent.0, sent.1);
            sound = subst (IsSound design.circuit end) (sym taken_at_once) (lead_sound design.circuit (circuit_ok all) end lead all.sound);
          }
