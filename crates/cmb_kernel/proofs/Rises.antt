-- An event raises some frontier exactly where it is useful, and lowers none.
use Rattle.std.proofs.Common.{◌≡◌, ℕ, zero, suc, ◌+◌, ◌<◌, ◌≤◌, true, List, [], ◌∷◌, map, length, Some, slice_get, slice_index_or, refl, ap, sym, subst, ◌∙◌, arith, ◌⊎◌, inl, inr}
use Rattle.std.specs.Option.{option_map_or}
use Rattle.std.proofs.lemmas.Bool.{cases_eq, cases_lt}
use Rattle.design.specs.Circuit.{Circuit, IsCircuit, pin_count}
use Rattle.design.specs.Pins.{first_pin, net_of_pin, place_of_pin}
use Rattle.design.proofs.CallerLemmas.{pin_is}
use Rattle.cmb_channels.specs.declared.message.Message.{Message}
use Rattle.cmb_channels.proofs.CallerLemmas.{map-update, view_at, view_of_update_other, view_of_update_same}
use Rattle.gate_process.specs.Knowledge.{Knowledge, told}
use Rattle.gate_process.specs.Step.{ProcessState, next_frontier, kept, all_kept, extended, advanced, heard}
use Rattle.cmb_events.specs.declared.event.Event.{Event}
use Rattle.cmb_events.specs.declared.event.Event.TheVariants.{Deliver, Advance}
use Rattle.cmb_events.specs.Schedule.{Exists}
use Rattle.gate_process.proofs.CallerLemmas.{get_below}
use Rattle.cmb_kernel.specs.State.{State, nets_of, frontier_at, received_of, received_at}
use Rattle.cmb_kernel.specs.Step.{step, after_advance, after_deliver}
use Rattle.cmb_kernel.specs.Useful.{NoneFalls, SomeRises, is_useful}
use Rattle.cmb_kernel.specs.Sound.{IsSound}
use Rattle.cmb_kernel.proofs.LeastFrontier.{net_count, frontier_rises}
use Rattle.cmb_kernel.proofs.UsefulEvents.{advance_useful, advance_useless, deliver_useful, deliver_useless, message_raises, process_of_pin}

-- ---- what pins know, as a view of the processes

view_there : {A : Type 0} (view : A → ℕ) (xs : List A) (at : ℕ) → option_map_or view (slice_get xs at) 0 ≡ slice_index_or (map view xs) at 0
view_there view [] at = refl
view_there view (x ∷ xs) zero = refl
view_there view (x ∷ xs) (suc at) = view_there view xs at

-- how far the pin of a net at a place knows its source
abbrev pub known_at : List ProcessState → ℕ → ℕ → ℕ
known_at processes net place = slice_index_or (map (λ (p : ProcessState). received_of p place) processes) net 0

pub received_is : (state : State) (pin : ℕ) →
    received_at state pin ≡ known_at state.processes (net_of_pin (nets_of state) pin) (place_of_pin (nets_of state) pin)
received_is state pin =
    view_there (λ (p : ProcessState). received_of p (place_of_pin (nets_of state) pin)) state.processes (net_of_pin (nets_of state) pin)

-- the same pin after some processes changed, whose nets stay
received_then : (state after : State) (pin : ℕ) → nets_of after ≡ nets_of state →
    received_at after pin ≡ known_at after.processes (net_of_pin (nets_of state) pin) (place_of_pin (nets_of state) pin)
received_then state after pin same =
    received_is after pin ∙ ap (λ c. known_at after.processes (net_of_pin c pin) (place_of_pin c pin)) same

-- ---- an Advance leaves what pins know

kept_frontiers : (process : ProcessState) (place : ℕ) (received : List Knowledge) →
    map (λ (k : Knowledge). k.frontier) (all_kept process place received) ≡ map (λ (k : Knowledge). k.frontier) received
kept_frontiers process place [] = refl
kept_frontiers process place (known ∷ received) = ap (λ ks. known.frontier ∷ ks) (kept_frontiers process (place + 1) received)

pub advance_received : (state : State) (net pin : ℕ) → received_at (step state (Advance net)) pin ≡ received_at state pin
advance_received state net pin =
    received_then state (after_advance state net) pin (map-update (λ (p : ProcessState). p.net) advanced net state.processes (λ p. refl))
    ∙ ap (λ ks. slice_index_or ks (net_of_pin (nets_of state) pin) 0)
    (map-update (λ (p : ProcessState). received_of p (place_of_pin (nets_of state) pin)) advanced net state.processes
    (λ p. ap (λ ks. slice_index_or ks (place_of_pin (nets_of state) pin) 0) (kept_frontiers (extended p) 0 p.received)))
    ∙ sym (received_is state pin)

-- ---- a Deliver raises what its pin knows, where a message waits

module _ (process : ProcessState) (place : ℕ) (message : Message) (known : Knowledge)
    (at : slice_get process.received place ≡ Some known) (raised : known.frontier < (told known message).frontier) where
  abbrev hears : Knowledge → Knowledge
  hears k = kept process place (told k message)

  heard_here : received_of process place < received_of (heard place message process) place
  heard_here =
      let new : received_of (heard place message process) place ≡ (told known message).frontier =
      view_of_update_same (λ (k : Knowledge). k.frontier) hears place process.received known at in
      let old : received_of process place ≡ known.frontier = view_at (λ (k : Knowledge). k.frontier) process.received place known at in
      omega arith

  heard_elsewhere : (other : ℕ) → (other ≡ place → ⊥) → received_of (heard place message process) other ≡ received_of process other
  heard_elsewhere other apart = view_of_update_other (λ (k : Knowledge). k.frontier) hears place process.received other apart

  heard_anywhere : (other : ℕ) → received_of process other ≤ received_of (heard place message process) other
  heard_anywhere other = go (cases_eq other place)
    where
      go : (other ≡ place) ⊎ (other ≡ place → ⊥) → received_of process other ≤ received_of (heard place message process) other
      go (inl is) =
          subst (λ o. received_of process o ≤ received_of (heard place message process) o) (sym is) (let less = heard_here in omega arith)
      go (inr apart) = let same = heard_elsewhere other apart in omega (arith, same)

module _ (circuit : Circuit) (ok : IsCircuit circuit) (last : ℕ) (state : State) (sound : IsSound circuit last state) (pin : ℕ)
    (exists : pin < length state.lists) (message : Message) (messages : List Message) (waiting : slice_index_or state.lists pin [] ≡ message ∷ messages) where
  abbrev after : State
  after = after_deliver state pin (message ∷ messages)

  same_nets : nets_of after ≡ nets_of state
  same_nets =
      map-update (λ (p : ProcessState). p.net) (heard (place_of_pin (nets_of state) pin) message) (net_of_pin (nets_of state) pin) state.processes (λ p. refl)

  deliver_raises : received_at state pin < received_at after pin
  deliver_raises =
      let process = process_of_pin circuit last state sound pin exists in
      let told_there = message_raises circuit ok last state sound pin message messages waiting exists process.0 process.1 in
      let here = heard_here process.0 (place_of_pin (nets_of state) pin) message told_there.0 told_there.1 told_there.2 in
      let view : ProcessState → ℕ = λ p. received_of p (place_of_pin (nets_of state) pin) in
      let old = received_is state pin ∙ view_at view state.processes (net_of_pin (nets_of state) pin) process.0 process.1 in
      let new = received_then state (after_deliver state pin (message ∷ messages)) pin same_nets
      ∙ view_of_update_same view (heard (place_of_pin (nets_of state) pin) message) (net_of_pin (nets_of state) pin) state.processes process.0 process.1 in
      omega (arith, here, old, new)

  -- a pin of another net
  other_net : (other : ℕ) → (net_of_pin (nets_of state) other ≡ net_of_pin (nets_of state) pin → ⊥) → received_at after other ≡ received_at state other
  other_net other apart =
      received_then state (after_deliver state pin (message ∷ messages)) other same_nets
      ∙ view_of_update_other (λ (p : ProcessState). received_of p (place_of_pin (nets_of state) other)) (heard (place_of_pin (nets_of state) pin) message)
      (net_of_pin (nets_of state) pin) state.processes (net_of_pin (nets_of state) other) apart
      ∙ sym (received_is state other)

  -- a pin of the same net
  own_net : (other : ℕ) → net_of_pin (nets_of state) other ≡ net_of_pin (nets_of state) pin →
      (process : ProcessState) → slice_get state.processes (net_of_pin (nets_of state) pin) ≡ Some process →
      (received_at state other ≡ received_of process (place_of_pin (nets_of state) other))
      × (received_at after other ≡ received_of (heard (place_of_pin (nets_of state) pin) message process) (place_of_pin (nets_of state) other))
  own_net other is process at = (
    received_is state other ∙ ap (λ n. known_at state.processes n (place_of_pin (nets_of state) other)) is
        ∙ view_at (λ (p : ProcessState). received_of p (place_of_pin (nets_of state) other)) state.processes (net_of_pin (nets_of state) pin) process at,
    received_then state (after_deliver state pin (message ∷ messages)) other same_nets
        ∙ ap (λ n. known_at (after_deliver state pin (message ∷ messages)).processes n (place_of_pin (nets_of state) other)) is
        ∙ view_of_update_same (λ (p : ProcessState). received_of p (place_of_pin (nets_of state) other)) (heard (place_of_pin (nets_of state) pin) message)
        (net_of_pin (nets_of state) pin) state.processes process at,
  )

  deliver_lowers_none : (other : ℕ) → received_at state other ≤ received_at after other
  deliver_lowers_none other = go (cases_eq (net_of_pin (nets_of state) other) (net_of_pin (nets_of state) pin))
    where
      go : (net_of_pin (nets_of state) other ≡ net_of_pin (nets_of state) pin) ⊎ (net_of_pin (nets_of state) other ≡ net_of_pin (nets_of state) pin → ⊥) →
          received_at state other ≤ received_at (after_deliver state pin (message ∷ messages)) other
      go (inl is) =
          let process = process_of_pin circuit last state sound pin exists in
          let told_there = message_raises circuit ok last state sound pin message messages waiting exists process.0 process.1 in
          let more = heard_anywhere process.0 (place_of_pin (nets_of state) pin) message told_there.0 told_there.1 told_there.2 (place_of_pin (nets_of state) other) in
          let there = own_net other is process.0 process.1 in
          omega (arith, more, there)
      go (inr apart) = let same = other_net other apart in omega (arith, same)

  -- and leaves what another pin knows
  deliver_leaves : (other : ℕ) → other < length state.lists → (other ≡ pin → ⊥) → received_at after other ≡ received_at state other
  deliver_leaves other there apart = go (cases_eq (net_of_pin (nets_of state) other) (net_of_pin (nets_of state) pin))
    where
      go : (net_of_pin (nets_of state) other ≡ net_of_pin (nets_of state) pin) ⊎ (net_of_pin (nets_of state) other ≡ net_of_pin (nets_of state) pin → ⊥) →
          received_at (after_deliver state pin (message ∷ messages)) other ≡ received_at state other
      go (inl is) =
          let count : pin_count (nets_of state) ≡ length state.lists = ap pin_count sound.nets ∙ sym sound.lists in
          let here = (pin_is (nets_of state) pin (omega (arith, exists, count))).number_is in
          let beside = (pin_is (nets_of state) other (omega (arith, there, count))).number_is in
          let process = process_of_pin circuit last state sound pin exists in
          let told_there = message_raises circuit ok last state sound pin message messages waiting exists process.0 process.1 in
          let same = heard_elsewhere process.0 (place_of_pin (nets_of state) pin) message told_there.0 told_there.1 told_there.2
          (place_of_pin (nets_of state) other) (λ place.
          apart (sym beside ∙ ap (λ n. first_pin (nets_of state) n + place_of_pin (nets_of state) other) is
          ∙ ap (λ at. first_pin (nets_of state) (net_of_pin (nets_of state) pin) + at) place ∙ here)) in
          let known = own_net other is process.0 process.1 in
          known.1 ∙ same ∙ sym known.0
      go (inr apart) = other_net other apart

-- ---- any event

module _ (circuit : Circuit) (ok : IsCircuit circuit) (last : ℕ) (state : State) (sound : IsSound circuit last state) where
  there : (pin : ℕ) → pin < pin_count circuit → pin < length state.lists
  there pin exists = let l = sound.lists in omega (arith, l)

  pub none_falls : (event : Event) → Exists circuit event → NoneFalls state (step state event)
  none_falls event exists = record { nets = frontier_rises circuit last state event sound exists; pins = pins event exists }
    where
      pins : (event : Event) → Exists circuit event → (pin : ℕ) → received_at state pin ≤ received_at (step state event) pin
      pins (Advance net) exists pin = let same = advance_received state net pin in omega (arith, same)
      pins (Deliver pin) exists other = go (slice_index_or state.lists pin []) refl
        where
          go : (messages : List Message) → slice_index_or state.lists pin [] ≡ messages → received_at state other ≤ received_at (after_deliver state pin messages) other
          go [] e = omega arith
          go (message ∷ messages) e = deliver_lowers_none circuit ok last state sound pin (there pin exists) message messages e other

  -- a Deliver leaves what other pins know
  pub deliver_elsewhere : (pin other : ℕ) → pin < pin_count circuit → other < pin_count circuit → (other ≡ pin → ⊥) →
      received_at (step state (Deliver pin)) other ≡ received_at state other
  deliver_elsewhere pin other exists other_exists apart = go (slice_index_or state.lists pin []) refl
    where
      go : (messages : List Message) → slice_index_or state.lists pin [] ≡ messages →
          received_at (after_deliver state pin messages) other ≡ received_at state other
      go [] e = refl
      go (message ∷ messages) e =
          deliver_leaves circuit ok last state sound pin (there pin exists) message messages e other (there other other_exists) apart

  -- a useful event raises some frontier
  pub useful_rises : (event : Event) → Exists circuit event → is_useful state event ≡ true → SomeRises state (step state event)
  useful_rises (Advance net) exists useful = go (cases_lt (process.0).known.frontier (next_frontier process.0))
    where
      process : (p : ProcessState) × (slice_get state.processes net ≡ Some p)
      process = let nets = net_count circuit last state sound in get_below state.processes net (omega (arith, nets))

      go : ((process.0).known.frontier < next_frontier process.0) ⊎ (next_frontier process.0 ≤ (process.0).known.frontier) →
          SomeRises state (step state (Advance net))
      go (inl less) =
          let old = view_at (λ (p : ProcessState). p.known.frontier) state.processes net process.0 process.1 in
          let new = view_of_update_same (λ (p : ProcessState). p.known.frontier) advanced net state.processes process.0 process.1 in
          inl (net, omega (arith, less, old, new))
      go (inr more) =
          let ahead = (sound.processes net process.0 process.1).ahead in
          let useless = advance_useless state net process.0 process.1 (omega (arith, more, ahead)) in
          absurd (let both = sym useful ∙ useless in cc)
  useful_rises (Deliver pin) exists useful = go (slice_index_or state.lists pin []) refl
    where
      go : (messages : List Message) → slice_index_or state.lists pin [] ≡ messages → SomeRises state (after_deliver state pin messages)
      go [] e = absurd (let both = sym useful ∙ deliver_useless state pin e in cc)
      go (message ∷ messages) e = inr (pin, deliver_raises circuit ok last state sound pin (there pin exists) message messages e)

  -- and an event that raises some frontier is useful
  pub rises_useful : (event : Event) → Exists circuit event → SomeRises state (step state event) → is_useful state event ≡ true
  rises_useful (Advance net) exists rises = go (cases_lt (process.0).known.frontier (next_frontier process.0)) rises
    where
      process : (p : ProcessState) × (slice_get state.processes net ≡ Some p)
      process = let nets = net_count circuit last state sound in get_below state.processes net (omega (arith, nets))

      unmoved : next_frontier process.0 ≤ (process.0).known.frontier → (number : ℕ) → frontier_at (step state (Advance net)) number ≡ frontier_at state number
      unmoved more number = at (cases_eq number net)
        where
          at : (number ≡ net) ⊎ (number ≡ net → ⊥) → frontier_at (step state (Advance net)) number ≡ frontier_at state number
          at (inl is) =
              let ahead = (sound.processes net process.0 process.1).ahead in
              let old = view_at (λ (p : ProcessState). p.known.frontier) state.processes net process.0 process.1 in
              let new = view_of_update_same (λ (p : ProcessState). p.known.frontier) advanced net state.processes process.0 process.1 in
              let same : frontier_at (step state (Advance net)) net ≡ frontier_at state net = omega (arith, more, ahead, old, new) in
              subst (λ n. frontier_at (step state (Advance net)) n ≡ frontier_at state n) (sym is) same
          at (inr apart) = view_of_update_other (λ (p : ProcessState). p.known.frontier) advanced net state.processes number apart

      go : ((process.0).known.frontier < next_frontier process.0) ⊎ (next_frontier process.0 ≤ (process.0).known.frontier) →
          SomeRises state (step state (Advance net)) → is_useful state (Advance net) ≡ true
      go (inl less) rises = advance_useful state net process.0 process.1 less
      go (inr more) (inl (number, up)) = absurd (let same = unmoved more number in omega (arith, same, up))
      go (inr more) (inr (pin, up)) = absurd (let same = advance_received state net pin in omega (arith, same, up))
  rises_useful (Deliver pin) exists rises = go (slice_index_or state.lists pin []) refl rises
    where
      go : (messages : List Message) → slice_index_or state.lists pin [] ≡ messages → SomeRises state (after_deliver state pin messages) →
          is_useful state (Deliver pin) ≡ true
      go [] e (inl (number, up)) = absurd (omega (arith, up))
      go [] e (inr (other, up)) = absurd (omega (arith, up))
      go (message ∷ messages) e rises = deliver_useful circuit ok last state sound pin message messages e (there pin exists)
