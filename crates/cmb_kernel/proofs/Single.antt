-- What single events do, and when they are useful.
use Rattle.std.proofs.Common.{◌≡◌, ℕ, zero, suc, ◌<◌, ◌≤◌, ◌==◌, Bool, true, false, cond, nat_lt, List, [], ◌∷◌, ◌++◌, length, All, Some, slice_get, slice_index_or, refl, ap, sym, subst, ◌∙◌, arith, ◌⊎◌, inl, inr}
use Rattle.std.specs.Option.{option_map_or}
use Rattle.std.proofs.lemmas.Bool.{cases_eq, cases_lt, eqb-true, eq-eqb, lt-ltb, le-ltb}
use Rattle.std.proofs.lemmas.List.Elements.{All-head, All-tail}
use Rattle.design.specs.Circuit.{Circuit, IsCircuit, pin_count}
use Rattle.design.specs.Equations.{value_of}
use Rattle.design.specs.Pins.{sources_of, net_of_pin, place_of_pin}
use Rattle.cmb_channels.specs.declared.message.Message.{Message}
use Rattle.cmb_channels.specs.Lists.{update, sent}
use Rattle.cmb_channels.proofs.CallerLemmas.{IsUpdated, get_of_update, get_update_other, sent-none, sent_at}
use Rattle.gate_process.specs.Step.{ProcessState, next_frontier, advanced, news, heard}
use Rattle.gate_process.proofs.CallerLemmas.{advanced_stays_true, get_below, no_news, quiet_true}
use Rattle.cmb_events.specs.declared.event.Event.{Event}
use Rattle.cmb_events.specs.declared.event.Event.TheVariants.{Deliver, Advance}
use Rattle.cmb_events.specs.Schedule.{Exists}
use Rattle.cmb_kernel.specs.State.{State, nets_of}
use Rattle.cmb_kernel.specs.Step.{counted, news_at, step, steps, after_deliver}
use Rattle.cmb_kernel.specs.Useful.{is_useful, IsUnheard}
use Rattle.cmb_kernel.specs.Sound.{IsSound}
use Rattle.cmb_kernel.proofs.Soundness.{meets_at, net_at, step_sound, steps_sound}
use Rattle.cmb_kernel.proofs.LeastFrontier.{net_count}
use Rattle.cmb_kernel.proofs.UsefulEvents.{advance_not_farther, advance_useful, advance_useless, deliver_useless, waiting_useful}

-- a list of a pin that another net feeds stays
sent_elsewhere : (net : ℕ) (messages : List Message) (sources : List ℕ) (lists : List (List Message)) (pin : ℕ) →
    (slice_get sources pin ≡ Some net → ⊥) → slice_index_or (sent net messages sources lists) pin [] ≡ slice_index_or lists pin []
sent_elsewhere net messages [] lists pin apart = refl
sent_elsewhere net messages (source ∷ sources) [] pin apart = refl
sent_elsewhere net messages (source ∷ sources) (list ∷ lists) zero apart = go (source == net) refl
  where
    go : (same : Bool) → (source == net) ≡ same → cond same (list ++ messages) list ≡ list
    go true e = absurd (apart (ap (λ n. Some n) (eqb-true source net e)))
    go false e = refl
sent_elsewhere net messages (source ∷ sources) (list ∷ lists) (suc pin) apart = sent_elsewhere net messages sources lists pin apart

-- a list whose element at a place stays
update-same : {A : Type 0} (change : A → A) (place : ℕ) (xs : List A) (x : A) → slice_get xs place ≡ Some x → change x ≡ x →
    update change place xs ≡ xs
update-same change place [] x at stays = refl
update-same change zero (y ∷ xs) x at stays =
    let same : y ≡ x = cc in ap (λ z. z ∷ xs) (ap change same ∙ stays ∙ sym same)
update-same change (suc place) (y ∷ xs) x at stays = ap (λ ys. y ∷ ys) (update-same change place xs x at stays)

-- ---- what events leave as it is

pub advance_others : (state : State) (net other : ℕ) → (other ≡ net → ⊥) →
    slice_get (step state (Advance net)).processes other ≡ slice_get state.processes other
advance_others state net other apart = get_update_other advanced net state.processes other apart

pub deliver_others : (state : State) (pin other : ℕ) → (other ≡ net_of_pin (nets_of state) pin → ⊥) →
    slice_get (step state (Deliver pin)).processes other ≡ slice_get state.processes other
deliver_others state pin other apart = go (slice_index_or state.lists pin [])
  where
    go : (messages : List Message) → slice_get (after_deliver state pin messages).processes other ≡ slice_get state.processes other
    go [] = refl
    go (message ∷ messages) =
        get_update_other (heard (place_of_pin (nets_of state) pin) message) (net_of_pin (nets_of state) pin) state.processes other apart

-- an advance is useful where the process can be reckoned farther
advance_is : (state : State) (net : ℕ) (process : ProcessState) → slice_get state.processes net ≡ Some process →
    is_useful state (Advance net) ≡ nat_lt process.known.frontier (next_frontier process)
advance_is state net process at = go (cases_lt process.known.frontier (next_frontier process))
  where
    go : (process.known.frontier < next_frontier process) ⊎ (next_frontier process ≤ process.known.frontier) →
        is_useful state (Advance net) ≡ nat_lt process.known.frontier (next_frontier process)
    go (inl less) = advance_useful state net process at less ∙ sym (lt-ltb process.known.frontier (next_frontier process) less)
    go (inr more) = advance_not_farther state net process at more ∙ sym (le-ltb process.known.frontier (next_frontier process) more)

-- so it is as useful in another state where the process is the same
same_advance : (one other : State) (net : ℕ) → slice_get one.processes net ≡ slice_get other.processes net → net < length other.processes →
    is_useful one (Advance net) ≡ is_useful other (Advance net)
same_advance one other net same within =
    let process = get_below other.processes net within in
    advance_is one net process.0 (same ∙ process.1) ∙ sym (advance_is other net process.0 process.1)

-- a net that an advance brought as far as it can be reckoned
abbrev IsReckoned : State → ℕ → Type 0
IsReckoned state net =
    (process : ProcessState) → slice_get state.processes net ≡ Some process → next_frontier process ≡ process.known.frontier

module _ (circuit : Circuit) (ok : IsCircuit circuit) (last : ℕ) where
  -- ---- what events are useful

  pub delivery_is_useful : (state : State) → IsSound circuit last state → (pin : ℕ) → pin < pin_count circuit →
      is_useful state (Deliver pin) ≡ true → 0 < length (slice_index_or state.lists pin [])
  delivery_is_useful state sound pin exists useful = go (slice_index_or state.lists pin []) refl
    where
      go : (messages : List Message) → slice_index_or state.lists pin [] ≡ messages → 0 < length messages
      go [] e = absurd (let both = sym useful ∙ deliver_useless state pin e in cc)
      go (message ∷ messages) e = omega arith

  pub advance_is_useful : (state : State) → IsSound circuit last state → (net : ℕ) (process : ProcessState) →
      slice_get state.processes net ≡ Some process → is_useful state (Advance net) ≡ true → process.known.frontier < next_frontier process
  advance_is_useful state sound net process at useful = go (cases_lt process.known.frontier (next_frontier process))
    where
      go : (process.known.frontier < next_frontier process) ⊎ (next_frontier process ≤ process.known.frontier) →
          process.known.frontier < next_frontier process
      go (inl less) = less
      go (inr more) =
          let ahead = (sound.processes net process at).ahead in
          let useless = advance_useless state net process at (omega (arith, more, ahead)) in
          absurd (let both = sym useful ∙ useless in cc)

  -- so it can be told without the event
  pub delivery_use : (state : State) → IsSound circuit last state → (pin : ℕ) → pin < pin_count circuit →
      nat_lt 0 (length (slice_index_or state.lists pin [])) ≡ is_useful state (Deliver pin)
  delivery_use state sound pin exists = go (slice_index_or state.lists pin []) refl
    where
      go : (messages : List Message) → slice_index_or state.lists pin [] ≡ messages → nat_lt 0 (length messages) ≡ is_useful state (Deliver pin)
      go [] e = sym (deliver_useless state pin e)
      go (message ∷ messages) e =
          lt-ltb 0 (length (message ∷ messages)) (omega arith)
          ∙ sym (waiting_useful circuit ok last state sound pin exists (let long = ap length e in omega (arith, long)))

  pub advance_use : (state : State) (net : ℕ) (process : ProcessState) → slice_get state.processes net ≡ Some process →
      nat_lt process.known.frontier (next_frontier process) ≡ is_useful state (Advance net)
  advance_use state net process at = go (cases_lt process.known.frontier (next_frontier process))
    where
      go : (process.known.frontier < next_frontier process) ⊎ (next_frontier process ≤ process.known.frontier) →
          nat_lt process.known.frontier (next_frontier process) ≡ is_useful state (Advance net)
      go (inl farther) = lt-ltb process.known.frontier (next_frontier process) farther ∙ sym (advance_useful state net process at farther)
      go (inr stays) = le-ltb process.known.frontier (next_frontier process) stays ∙ sym (advance_not_farther state net process at stays)

  -- ---- what events leave of the use of others

  pub advance_beside : (state : State) → IsSound circuit last state → (net other : ℕ) → other < length circuit → (other ≡ net → ⊥) →
      is_useful (step state (Advance net)) (Advance other) ≡ is_useful state (Advance other)
  advance_beside state sound net other below apart =
      same_advance (step state (Advance net)) state other (advance_others state net other apart)
      (let nets = net_count circuit last state sound in omega (arith, below, nets))

  pub deliver_beside : (state : State) → IsSound circuit last state → (pin net : ℕ) → net < length circuit → (net ≡ net_of_pin circuit pin → ⊥) →
      is_useful (step state (Deliver pin)) (Advance net) ≡ is_useful state (Advance net)
  deliver_beside state sound pin net below apart =
      same_advance (step state (Deliver pin)) state net
      (deliver_others state pin net (subst (λ nets. net ≡ net_of_pin nets pin → ⊥) (sym sound.nets) apart))
      (let nets = net_count circuit last state sound in omega (arith, below, nets))

  -- ---- events that aren't useful

  pub useless_leaves : (state : State) → IsSound circuit last state → (event : Event) → Exists circuit event →
      is_useful state event ≡ false → step state event ≡ record state { counts = counted state.counts [] }
  useless_leaves state sound (Deliver pin) exists useless = go (slice_index_or state.lists pin []) refl
    where
      go : (messages : List Message) → slice_index_or state.lists pin [] ≡ messages →
          step state (Deliver pin) ≡ record state { counts = counted state.counts [] }
      go [] e = ap (after_deliver state pin) e
      go (message ∷ messages) e =
          let waits : 0 < length (slice_index_or state.lists pin []) = let long = ap length e in omega (arith, long) in
          let useful = waiting_useful circuit ok last state sound pin exists waits in
          absurd (let both = sym useful ∙ useless in cc)
  useless_leaves state sound (Advance net) exists useless =
      let nets = net_count circuit last state sound in
      let process = get_below state.processes net (omega (arith, exists, nets)) in
      let ahead = (sound.processes net process.0 process.1).ahead in
      let more = stays process.0 process.1 (cases_lt (process.0).known.frontier (next_frontier process.0)) in
      let same : next_frontier process.0 ≡ (process.0).known.frontier = omega (arith, ahead, more) in
      let meets = meets_at circuit ok net (process.0).net (net_at circuit ok last state sound net process.0 process.1) in
      let quiet = quiet_true (value_of circuit) net process.0 meets (sound.processes net process.0 process.1) same in
      let news : news_at state net ≡ [] = ap (λ place. option_map_or news place []) process.1 ∙ no_news process.0 same in
      let processes = update-same advanced net state.processes process.0 process.1 quiet in
      let lists = ap (λ messages. sent net messages (sources_of (nets_of state)) state.lists) news
      ∙ sent-none net (sources_of (nets_of state)) state.lists in
      λ i. record { processes = processes i; lists = lists i; counts = counted state.counts (news i) }
    where
      stays : (process : ProcessState) → slice_get state.processes net ≡ Some process →
          (process.known.frontier < next_frontier process) ⊎ (next_frontier process ≤ process.known.frontier) →
          next_frontier process ≤ process.known.frontier
      stays process at (inl less) = absurd (let both = sym (advance_useful state net process at less) ∙ useless in cc)
      stays process at (inr more) = more

  -- ---- what an advance sends

  module _ (state : State) (sound : IsSound circuit last state) where
    pub advance_sends : (net pin : ℕ) → slice_get (sources_of circuit) pin ≡ Some net → pin < pin_count circuit →
        slice_index_or (step state (Advance net)).lists pin [] ≡ slice_index_or state.lists pin [] ++ news_at state net
    advance_sends net pin feeds exists =
        sent_at net (news_at state net) (sources_of (nets_of state)) state.lists pin net
        (subst (λ c. slice_get (sources_of c) pin ≡ Some net) (sym sound.nets) feeds) (let l = sound.lists in omega (arith, exists, l))
        ∙ ap (λ b. cond b (slice_index_or state.lists pin [] ++ news_at state net) (slice_index_or state.lists pin [])) (eq-eqb net net refl)

    pub advance_leaves_lists : (net pin : ℕ) → (slice_get (sources_of circuit) pin ≡ Some net → ⊥) →
        slice_index_or (step state (Advance net)).lists pin [] ≡ slice_index_or state.lists pin []
    advance_leaves_lists net pin apart =
        sent_elsewhere net (news_at state net) (sources_of (nets_of state)) state.lists pin
        (subst (λ c. slice_get (sources_of c) pin ≡ Some net → ⊥) (sym sound.nets) apart)

  -- ---- a net has nothing to tell until one of its pins hears something

  reckoned_after : (state : State) (net : ℕ) → IsSound circuit last state → IsReckoned (step state (Advance net)) net
  reckoned_after state net sound process at = go (get_of_update advanced net state.processes net process at)
    where
      go : IsUpdated advanced net state.processes net process → next_frontier process ≡ process.known.frontier
      go (inl (here, (old, stood, is))) =
          let meets = meets_at circuit ok net old.net (net_at circuit ok last state sound net old stood) in
          let stays = advanced_stays_true (value_of circuit) net old meets (sound.processes net old stood) in
          subst (λ (p : ProcessState). next_frontier p ≡ p.known.frontier) (sym is) stays
      go (inr (apart, stood)) = absurd (apart refl)

  reckoned_on : (state : State) (net : ℕ) (event : Event) → IsSound circuit last state → IsUnheard circuit net event →
      IsReckoned state net → IsReckoned (step state event) net
  reckoned_on state net (Deliver pin) sound unheard reckoned process at =
      let apart : net ≡ net_of_pin (nets_of state) pin → ⊥ =
      (λ same. unheard (ap (λ c. net_of_pin c pin) (sym sound.nets) ∙ sym same)) in
      reckoned process (sym (deliver_others state pin net apart) ∙ at)
  reckoned_on state net (Advance other) sound unheard reckoned process at = go (cases_eq net other)
    where
      go : (net ≡ other) ⊎ (net ≡ other → ⊥) → next_frontier process ≡ process.known.frontier
      go (inl same) = subst (λ n. IsReckoned (step state (Advance n)) net) same (reckoned_after state net sound) process at
      go (inr apart) = reckoned process (sym (advance_others state other net apart) ∙ at)

  all_reckoned_on : (state : State) (net : ℕ) (events : List Event) → IsSound circuit last state → All (Exists circuit) events →
      All (IsUnheard circuit net) events → IsReckoned state net → IsReckoned (steps state events) net
  all_reckoned_on state net [] sound exist unheard reckoned = reckoned
  all_reckoned_on state net (event ∷ events) sound exist unheard reckoned =
      all_reckoned_on (step state event) net events (step_sound circuit ok last state event sound (All-head (Exists circuit) event events exist))
      (All-tail (Exists circuit) event events exist) (All-tail (IsUnheard circuit net) event events unheard)
      (reckoned_on state net event sound (All-head (IsUnheard circuit net) event events unheard) reckoned)

  pub nothing_to_tell : (state : State) (net : ℕ) (events : List Event) → IsSound circuit last state → net < length circuit →
      All (Exists circuit) events → All (IsUnheard circuit net) events →
      is_useful (steps (step state (Advance net)) events) (Advance net) ≡ false
  nothing_to_tell state net events sound below exist unheard =
      let advances = step_sound circuit ok last state (Advance net) sound below in
      let after = steps_sound circuit ok last (step state (Advance net)) events advances exist in
      let nets = net_count circuit last (steps (step state (Advance net)) events) after in
      let process = get_below (steps (step state (Advance net)) events).processes net (omega (arith, nets, below)) in
      advance_useless (steps (step state (Advance net)) events) net process.0 process.1
      (all_reckoned_on (step state (Advance net)) net events advances exist unheard (reckoned_after state net sound) process.0 process.1)
