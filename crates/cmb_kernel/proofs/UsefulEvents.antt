-- A run that isn't complete can go on, and useful events are few.
use Rattle.std.proofs.Common.{◌≡◌, ℕ, zero, suc, ◌+◌, ◌<◌, ◌≤◌, min, nat_lt, true, false, List, [], ◌∷◌, map, length, sum_by, Some, slice_get, slice_index_or, refl, ap, sym, subst, arith, ◌⊎◌, inl, inr}
use Rattle.std.proofs.lemmas.Bool.{cases_lt, lt-ltb, le-ltb}
use Rattle.std.proofs.lemmas.List.{length-map}
use Rattle.std.proofs.lemmas.List.Sums.{sum_by-cons}
use Rattle.std.proofs.lemmas.Option.{slice_get_within, get_or_from_slice_get}
use Rattle.design.proofs.CallerLemmas.{timed_at, pin_is}
use Rattle.design.specs.Circuit.{Net, Circuit, IsCircuit, pin_count}
use Rattle.timing_text.specs.Ranges.{HasDelay}
use Rattle.design.specs.Equations.{value_of}
use Rattle.netlist.specs.declared.part.Part.{Part}
use Rattle.netlist.specs.declared.part.Part.TheVariants.{Input, Gate, Flop}
use Rattle.cmb_channels.specs.declared.message.Message.{Message}
use Rattle.cmb_channels.specs.Lists.{update}
use Rattle.design.specs.Pins.{net_of_pin, place_of_pin}
use Rattle.cmb_channels.proofs.CallerLemmas.{view_at, view_of_update_same}
use Rattle.gate_process.specs.Knowledge.{Knowledge, told}
use Rattle.gate_process.specs.Step.{ProcessState, least, own_delay, next_frontier, kept, all_kept, extended, advanced, heard}
use Rattle.gate_process.proofs.CallerLemmas.{HeardTruth, get_below, get_of_map, heard_truth, least_greatest}
use Rattle.cmb_events.specs.declared.event.Event.{Event}
use Rattle.cmb_events.specs.declared.event.Event.TheVariants.{Deliver, Advance}
use Rattle.cmb_kernel.specs.State.{State, nets_of, frontier_at, least_frontier, least_delay, IsComplete}
use Rattle.cmb_kernel.specs.Useful.{progress_of, progress, is_useful}
use Rattle.cmb_kernel.specs.Step.{step, after_deliver}
use Rattle.cmb_events.specs.Schedule.{Exists}
use Rattle.cmb_kernel.specs.Sound.{IsSound}
use Rattle.cmb_kernel.proofs.Soundness.{pin_tells}
use Rattle.cmb_kernel.proofs.LeastFrontier.{net_count, least_frontier-le, pins_know, advances_farther}
use Rattle.cmb_kernel.proofs.Completion.{complete_from_least}

pub sum_by-update : {A : Type 0} (size : A → ℕ) (change : A → A) (place : ℕ) (xs : List A) (x : A) → slice_get xs place ≡ Some x →
    sum_by size (update change place xs) + size x ≡ sum_by size xs + size (change x)
sum_by-update size change place [] x e = cc
sum_by-update size change zero (y ∷ xs) x e =
    let same : y ≡ x = cc in
    let a = sum_by-cons size (change y) xs in
    let b = sum_by-cons size y xs in
    let c = ap size same in
    let d = ap (λ z. size (change z)) same in
    omega arith
sum_by-update size change (suc place) (y ∷ xs) x e =
    let a = sum_by-cons size y (update change place xs) in
    let b = sum_by-cons size y xs in
    let rest = sum_by-update size change place xs x e in
    omega arith

sum_kept : (process : ProcessState) (place : ℕ) (received : List Knowledge) →
    sum_by (λ (k : Knowledge). k.frontier) (all_kept process place received) ≡ sum_by (λ (k : Knowledge). k.frontier) received
sum_kept process place [] = refl
sum_kept process place (known ∷ received) =
    let a = sum_by-cons (λ (k : Knowledge). k.frontier) (kept process place known) (all_kept process (place + 1) received) in
    let b = sum_by-cons (λ (k : Knowledge). k.frontier) known received in
    let rest = sum_kept process (place + 1) received in
    omega arith

pub progress-advanced : (process : ProcessState) → progress_of (advanced process) + process.known.frontier ≡ progress_of process + next_frontier process
progress-advanced process =
    let same = sum_kept (extended process) 0 process.received in
    omega arith

-- an Advance that raises a frontier is useful
pub advance_useful : (state : State) (net : ℕ) (process : ProcessState) → slice_get state.processes net ≡ Some process →
    process.known.frontier < next_frontier process → is_useful state (Advance net) ≡ true
advance_useful state net process e h =
    let all = sum_by-update progress_of advanced net state.processes process e in
    let one = progress-advanced process in
    lt-ltb (progress state) (progress (step state (Advance net))) (omega arith)

-- the first message that waits at a pin raises what the pin knows
pub message_raises : (circuit : Circuit) → IsCircuit circuit → (last : ℕ) (state : State) → IsSound circuit last state →
    (pin : ℕ) (message : Message) (messages : List Message) → slice_index_or state.lists pin [] ≡ message ∷ messages → pin < length state.lists →
    (process : ProcessState) → slice_get state.processes (net_of_pin (nets_of state) pin) ≡ Some process →
    (received : Knowledge) × (slice_get process.received (place_of_pin (nets_of state) pin) ≡ Some received)
    × (received.frontier < (told received message).frontier)
message_raises circuit ok last state sound pin message messages waiting exists process at =
    let tells = pin_tells circuit ok last state sound pin message messages waiting exists process at in
    let so_far = (sound.processes (net_of_pin (nets_of state) pin) process at).heard
    (place_of_pin (nets_of state) pin) tells.0 tells.1 tells.2 tells.3 in
    let truth : HeardTruth (value_of circuit tells.0) process (place_of_pin (nets_of state) pin) (frontier_at state tells.0) tells.1 (told tells.1 message) messages =
    heard_truth (value_of circuit tells.0) process (place_of_pin (nets_of state) pin) (frontier_at state tells.0) tells.1 message messages so_far tells.4 in
    (tells.1, tells.3, truth.raised)

-- there is a process for the net of each pin
pub process_of_pin : (circuit : Circuit) (last : ℕ) (state : State) → IsSound circuit last state → (pin : ℕ) → pin < length state.lists →
    (process : ProcessState) × (slice_get state.processes (net_of_pin (nets_of state) pin) ≡ Some process)
process_of_pin circuit last state sound pin exists =
    let count : pin < pin_count (nets_of state) = (let l = sound.lists in let c = ap pin_count sound.nets in omega arith) in
    let there = pin_is (nets_of state) pin count in
    let within = slice_get_within (nets_of state) (net_of_pin (nets_of state) pin) there.net there.at in
    let length = length-map state.processes (λ (p : ProcessState). p.net) in
    get_below state.processes (net_of_pin (nets_of state) pin) (omega arith)

-- a Deliver of a message that waits is useful
pub deliver_useful : (circuit : Circuit) → IsCircuit circuit → (last : ℕ) (state : State) → IsSound circuit last state →
    (pin : ℕ) (message : Message) (messages : List Message) → slice_index_or state.lists pin [] ≡ message ∷ messages →
    pin < length state.lists → is_useful state (Deliver pin) ≡ true
deliver_useful circuit ok last state sound pin message messages waiting exists =
    subst (λ ms. nat_lt (progress state) (progress (after_deliver state pin ms)) ≡ true) (sym waiting)
    (lt-ltb (progress state) (progress (after_deliver state pin (message ∷ messages))) raised)
  where
    raised : progress state < progress (after_deliver state pin (message ∷ messages))
    raised =
        let process = process_of_pin circuit last state sound pin exists in
        let told_there = message_raises circuit ok last state sound pin message messages waiting exists process.0 process.1 in
        let up : (told_there.0).frontier < (told told_there.0 message).frontier = told_there.2 in
        let inner = sum_by-update (λ (k : Knowledge). k.frontier) (λ (known : Knowledge). kept process.0 (place_of_pin (nets_of state) pin) (told known message))
        (place_of_pin (nets_of state) pin) (process.0).received told_there.0 told_there.1 in
        let all = sum_by-update progress_of (heard (place_of_pin (nets_of state) pin) message) (net_of_pin (nets_of state) pin) state.processes process.0 process.1 in
        omega arith

pub waiting_useful : (circuit : Circuit) → IsCircuit circuit → (last : ℕ) (state : State) → IsSound circuit last state →
    (pin : ℕ) → pin < pin_count circuit → 0 < length (slice_index_or state.lists pin []) → is_useful state (Deliver pin) ≡ true
waiting_useful circuit ok last state sound pin exists waiting = go (slice_index_or state.lists pin []) refl waiting
  where
    go : (messages : List Message) → slice_index_or state.lists pin [] ≡ messages → 0 < length messages → is_useful state (Deliver pin) ≡ true
    go [] e some = absurd (omega arith)
    go (message ∷ messages) e some =
        deliver_useful circuit ok last state sound pin message messages e (let l = sound.lists in omega arith)

-- a Deliver where nothing waits isn't useful
pub deliver_useless : (state : State) (pin : ℕ) → slice_index_or state.lists pin [] ≡ [] → is_useful state (Deliver pin) ≡ false
deliver_useless state pin empty =
    subst (λ ms. nat_lt (progress state) (progress (after_deliver state pin ms)) ≡ false) (sym empty)
    (le-ltb (progress state) (progress state) (omega arith))

-- nor is an Advance that doesn't raise the frontier
pub advance_not_farther : (state : State) (net : ℕ) (process : ProcessState) → slice_get state.processes net ≡ Some process →
    next_frontier process ≤ process.known.frontier → is_useful state (Advance net) ≡ false
advance_not_farther state net process e h =
    let all = sum_by-update progress_of advanced net state.processes process e in
    let one = progress-advanced process in
    le-ltb (progress state) (progress (step state (Advance net))) (omega arith)

pub advance_useless : (state : State) (net : ℕ) (process : ProcessState) → slice_get state.processes net ≡ Some process →
    next_frontier process ≡ process.known.frontier → is_useful state (Advance net) ≡ false
advance_useless state net process e h = advance_not_farther state net process e (omega (arith, h))

-- a message waits at some pin, or at none
some_waits : (lists : List (List Message)) →
    ((pin : ℕ) × (message : Message) × (messages : List Message) × (slice_index_or lists pin [] ≡ message ∷ messages) × (pin < length lists))
    ⊎ ((pin : ℕ) → slice_index_or lists pin [] ≡ [])
some_waits [] = inr (λ pin. refl)
some_waits ((message ∷ messages) ∷ lists) = inl (0, message, messages, refl, omega arith)
some_waits ([] ∷ lists) = go (some_waits lists)
  where
    empty : ((pin : ℕ) → slice_index_or lists pin [] ≡ []) → (pin : ℕ) → slice_index_or ([] ∷ lists) pin [] ≡ []
    empty h zero = refl
    empty h (suc pin) = h pin

    go : ((pin : ℕ) × (message : Message) × (messages : List Message) × (slice_index_or lists pin [] ≡ message ∷ messages) × (pin < length lists))
        ⊎ ((pin : ℕ) → slice_index_or lists pin [] ≡ []) →
        ((pin : ℕ) × (message : Message) × (messages : List Message) × (slice_index_or ([] ∷ lists) pin [] ≡ message ∷ messages) × (pin < length ([] ∷ lists)))
        ⊎ ((pin : ℕ) → slice_index_or ([] ∷ lists) pin [] ≡ [])
    go (inl found) = inl (suc found.0, found.1, found.2, found.3, (let h = found.4 in omega arith))
    go (inr none) = inr (empty none)

-- the least of some numbers is the bound or one of them
least_is : (bound : ℕ) (xs : List ℕ) → (least bound xs ≡ bound) ⊎ ((place : ℕ) × (slice_get xs place ≡ Some (least bound xs)))
least_is bound [] = inl refl
least_is bound (x ∷ xs) = go (least_is (min bound x) xs) (cases_lt bound x)
  where
    go : (least (min bound x) xs ≡ min bound x) ⊎ ((place : ℕ) × (slice_get xs place ≡ Some (least (min bound x) xs))) →
        (bound < x) ⊎ (x ≤ bound) →
        (least (min bound x) xs ≡ bound) ⊎ ((place : ℕ) × (slice_get (x ∷ xs) place ≡ Some (least (min bound x) xs)))
    go (inl same) (inl less) = inl (omega arith)
    go (inl same) (inr more) = inr (0, ap (λ n. Some n) (let e : x ≡ least (min bound x) xs = omega arith in e))
    go (inr found) _ = inr (suc found.0, found.1)

-- each delay is positive
delay_positive : (part : Part) (end delay : ℕ) → HasDelay part delay → 0 < end → 0 < own_delay part end delay
delay_positive Input end delay timed h = h
delay_positive (Gate kind) end delay timed h = timed.0
delay_positive Flop end delay timed h = timed.0

pub least_delay-positive : (circuit : Circuit) (last : ℕ) → IsCircuit circuit → 0 < last → 0 < least_delay last circuit
least_delay-positive circuit last ok h =
    let each = least_greatest last (map (λ (n : Net). own_delay n.part last n.timing.delay) circuit) 1 (omega arith) (λ place x e.
    let net = get_of_map (λ (n : Net). own_delay n.part last n.timing.delay) circuit place x e in
    let positive = delay_positive (net.0).part last (net.0).timing.delay (timed_at circuit ok place net.0 net.1).timing.delay h in
    let is = net.2 in
    omega arith) in
    omega arith

-- so what rises by it rises, but at the end
pub rises_by_delay : (circuit : Circuit) (last from after : ℕ) → IsCircuit circuit → min last (from + least_delay last circuit) ≤ after →
    from < last → from < after
rises_by_delay circuit last from after ok raised below = farther last from (least_delay last circuit) after below
    (least_delay-positive circuit last ok (omega arith)) raised
  where
    farther : (n a d b : ℕ) → a < n → 0 < d → min n (a + d) ≤ b → a < b
    farther n a d b h some e = omega arith

-- where no message waits, an Advance of a net of the least frontier is useful, unless that is the end
pub slowest_useful : (circuit : Circuit) → IsCircuit circuit → (last : ℕ) (state : State) → IsSound circuit last state →
    ((pin : ℕ) → slice_index_or state.lists pin [] ≡ []) → (net : ℕ) → net < length circuit →
    frontier_at state net ≡ least_frontier last state → least_frontier last state < last → is_useful state (Advance net) ≡ true
slowest_useful circuit ok last state sound empty net below slowest early =
    let nets = net_count circuit last state sound in
    let process = get_below state.processes net (omega arith) in
    let old : frontier_at state net ≡ (process.0).known.frontier =
    view_at (λ (p : ProcessState). p.known.frontier) state.processes net process.0 process.1 in
    let known = pins_know circuit last (least_frontier last state) state sound ok empty
    (λ n h. least_frontier-le circuit last state sound n h) in
    let farther = advances_farther circuit last (least_frontier last state) state net sound ok (omega arith) (known net) below in
    let new : frontier_at (step state (Advance net)) net ≡ next_frontier process.0 =
    view_of_update_same (λ (p : ProcessState). p.known.frontier) advanced net state.processes process.0 process.1 in
    let delay = least_delay-positive circuit last ok (omega arith) in
    advance_useful state net process.0 process.1 (omega arith)

-- where the state isn't complete some event is useful: a message that waits, or else an Advance of a net of least frontier
pub useful_event : (circuit : Circuit) → IsCircuit circuit → (last : ℕ) (state : State) → IsSound circuit last state → (IsComplete state → ⊥) →
    (event : Event) × Exists circuit event × (is_useful state event ≡ true)
useful_event circuit ok last state sound incomplete = go (some_waits state.lists)
  where
    -- no message waits, and this net has the least frontier
    slowest : ((pin : ℕ) → slice_index_or state.lists pin [] ≡ []) →
        (least_frontier last state ≡ last)
        ⊎ ((place : ℕ) × (slice_get (map (λ (p : ProcessState). p.known.frontier) state.processes) place ≡ Some (least_frontier last state))) →
        (event : Event) × Exists circuit event × (is_useful state event ≡ true)
    slowest empty (inl at_end) = absurd (incomplete (complete_from_least circuit last state sound (omega arith)))
    slowest empty (inr found) =
        let within = slice_get_within (map (λ (p : ProcessState). p.known.frontier) state.processes) found.0 (least_frontier last state) found.1 in
        let count = length-map state.processes (λ (p : ProcessState). p.known.frontier) in
        let nets = net_count circuit last state sound in
        let below : found.0 < length circuit = omega arith in
        go2 found.0 below (get_or_from_slice_get (map (λ (p : ProcessState). p.known.frontier) state.processes) found.0 (least_frontier last state) 0 found.1)
        (cases_lt (least_frontier last state) last)
      where
        go2 : (net : ℕ) → net < length circuit → frontier_at state net ≡ least_frontier last state →
            (least_frontier last state < last) ⊎ (last ≤ least_frontier last state) →
            (event : Event) × Exists circuit event × (is_useful state event ≡ true)
        go2 net below is (inr done) = absurd (incomplete (complete_from_least circuit last state sound done))
        go2 net below is (inl early) = (Advance net, below, slowest_useful circuit ok last state sound empty net below is early)

    go : ((pin : ℕ) × (message : Message) × (messages : List Message) × (slice_index_or state.lists pin [] ≡ message ∷ messages) × (pin < length state.lists))
        ⊎ ((pin : ℕ) → slice_index_or state.lists pin [] ≡ []) →
        (event : Event) × Exists circuit event × (is_useful state event ≡ true)
    go (inl found) = (
      Deliver found.0,
      (let l = sound.lists in let h = found.4 in omega arith),
      deliver_useful circuit ok last state sound found.0 found.1 found.2 found.3 found.4,
    )
    go (inr empty) = slowest empty (least_is last (map (λ (p : ProcessState). p.known.frontier) state.processes))
