-- Useful events are bounded, and nulls by the useful Advances.
use Rattle.std.proofs.Common.{◌≡◌, ℕ, suc, ◌+◌, ◌*◌, ◌<◌, ◌≤◌, ◌==◌, nat_lt, Bool, true, false, cond, List, [], ◌∷◌, map, length, sum_by, count_by, All, Some, slice_get, slice_index_or, get_or, refl, ap, sym, subst, ◌∙◌, arith}
use Rattle.std.specs.Option.{option_map_or}
use Rattle.std.proofs.lemmas.Bool.{ltb-true, eqb-false}
use Rattle.std.proofs.lemmas.List.Elements.{All-head, All-tail, All-get_or}
use Rattle.std.proofs.lemmas.List.Sums.{sum_by-cons, sum_by-le}
use Rattle.std.proofs.lemmas.Option.{slice_get_within, slice_get-get_or, get_or_from_slice_get}
use Rattle.std.proofs.Math.Nat.{suc-mul, add-mul}
use Rattle.logic3.specs.declared.change.Change.{Change}
use Rattle.logic3.specs.Wave.{changes_between}
use Rattle.design.proofs.CallerLemmas.{pins_at, pin_count-cons}
use Rattle.design.specs.Circuit.{Circuit, IsCircuit, pin_count}
use Rattle.design.specs.Equations.{value_of}
use Rattle.cmb_channels.specs.Kinds.{is_null}
use Rattle.cmb_channels.specs.declared.message.Message.{Message}
use Rattle.cmb_channels.specs.declared.message.Message.TheVariants.{Change as Changes, Null}
use Rattle.cmb_channels.proofs.CallerLemmas.{view_at}
use Rattle.gate_process.specs.Knowledge.{Knowledge, news_of}
use Rattle.gate_process.specs.Step.{ProcessState, next_frontier, reckoned, advanced, news}
use Rattle.gate_process.proofs.CallerLemmas.{Tells-le, get_below}
use Rattle.cmb_events.specs.declared.event.Event.{Event}
use Rattle.cmb_events.specs.declared.event.Event.TheVariants.{Deliver, Advance}
use Rattle.cmb_kernel.specs.State.{State, frontier_at}
use Rattle.cmb_kernel.specs.Useful.{progress_of, progress, is_advance, is_useful, useful_count, useful_advances}
use Rattle.cmb_kernel.specs.Step.{step, steps, after_deliver}
use Rattle.cmb_events.specs.Schedule.{Exists}
use Rattle.cmb_kernel.specs.Sound.{IsSound}
use Rattle.cmb_kernel.proofs.Soundness.{net_at, step_sound, steps_sound}
use Rattle.cmb_kernel.proofs.LeastFrontier.{net_count}
use Rattle.cmb_kernel.proofs.Completion.{frontier_within}
use Rattle.cmb_kernel.proofs.UsefulEvents.{sum_by-update, progress-advanced, advance_useful, deliver_useful}

-- no event lowers the measure
pub progress_rises : (circuit : Circuit) → IsCircuit circuit → (last : ℕ) (state : State) (event : Event) → IsSound circuit last state →
    Exists circuit event → progress state ≤ progress (step state event)
progress_rises circuit ok last state (Advance net) sound exists =
    let nets = net_count circuit last state sound in
    let process = get_below state.processes net (omega arith) in
    let all = sum_by-update progress_of advanced net state.processes process.0 process.1 in
    let one = progress-advanced process.0 in
    let ahead = (sound.processes net process.0 process.1).ahead in
    omega arith
progress_rises circuit ok last state (Deliver pin) sound exists = go (slice_index_or state.lists pin []) refl
  where
    go : (waiting : List Message) → slice_index_or state.lists pin [] ≡ waiting → progress state ≤ progress (after_deliver state pin waiting)
    go [] e = omega arith
    go (message ∷ messages) e =
        let useful : is_useful state (Deliver pin) ≡ true =
        deliver_useful circuit ok last state sound pin message messages e (let l = sound.lists in omega arith) in
        let here : nat_lt (progress state) (progress (after_deliver state pin (message ∷ messages))) ≡ true =
        subst (λ ms. nat_lt (progress state) (progress (after_deliver state pin ms)) ≡ true) e useful in
        let less = ltb-true (progress state) (progress (after_deliver state pin (message ∷ messages))) here in
        omega arith

-- each useful event raises it by at least one
pub useful_raise : (circuit : Circuit) → IsCircuit circuit → (last : ℕ) (state : State) (events : List Event) → IsSound circuit last state →
    All (Exists circuit) events → useful_count state events + progress state ≤ progress (steps state events)
useful_raise circuit ok last state [] sound exist = omega arith
useful_raise circuit ok last state (event ∷ events) sound exist =
    go (is_useful state event) refl
    (useful_raise circuit ok last (step state event) events
    (step_sound circuit ok last state event sound (All-head (Exists circuit) event events exist)) (All-tail (Exists circuit) event events exist))
    (progress_rises circuit ok last state event sound (All-head (Exists circuit) event events exist))
  where
    go : (useful : Bool) → is_useful state event ≡ useful →
        useful_count (step state event) events + progress (step state event) ≤ progress (steps (step state event) events) →
        progress state ≤ progress (step state event) →
        cond useful 1 0 + useful_count (step state event) events + progress state ≤ progress (steps (step state event) events)
    go true e rest up = let less = ltb-true (progress state) (progress (step state event)) e in omega arith
    go false e rest up = omega arith

-- the source of a pin knows itself no farther than the end
pub feeder_within : (circuit : Circuit) → IsCircuit circuit → (last : ℕ) (state : State) → IsSound circuit last state →
    (number place source : ℕ) (process : ProcessState) → slice_get state.processes number ≡ Some process →
    slice_get process.net.pins place ≡ Some source → frontier_at state source ≤ last
feeder_within circuit ok last state sound number place source process a b =
    let within : place < length process.net.pins = slice_get_within process.net.pins place source b in
    let there : get_or process.net.pins place 0 < length circuit =
    All-get_or (λ pin. pin < length circuit) process.net.pins place 0 within
    (pins_at circuit ok number process.net (net_at circuit ok last state sound number process a)) in
    let is : get_or process.net.pins place 0 ≡ source = get_or_from_slice_get process.net.pins place source 0 b in
    let nets = net_count circuit last state sound in
    let feeder = get_below state.processes source (omega arith) in
    let at : frontier_at state source ≡ (feeder.0).known.frontier =
    view_at (λ (p : ProcessState). p.known.frontier) state.processes source feeder.0 feeder.1 in
    let high = frontier_within circuit last source state feeder.0 sound feeder.1 in
    omega arith

-- no pin is told of ticks past the end
pub received_within : (circuit : Circuit) → IsCircuit circuit → (last : ℕ) (state : State) → IsSound circuit last state →
    (number place : ℕ) (process : ProcessState) (received : Knowledge) →
    slice_get state.processes number ≡ Some process → slice_get process.received place ≡ Some received → received.frontier ≤ last
received_within circuit ok last state sound number place process received a b =
    let pins : length process.received ≡ length process.net.pins = (sound.processes number process a).pins in
    let within : place < length process.received = slice_get_within process.received place received b in
    let source = get_below process.net.pins place (omega arith) in
    let told = Tells-le (value_of circuit source.0) received.frontier (frontier_at state source.0) _
    (sound.waiting number place source.0 process received a source.1 b) in
    let high = feeder_within circuit ok last state sound number place source.0 process a source.1 in
    omega arith

progress_of-bound : (circuit : Circuit) → IsCircuit circuit → (last : ℕ) (state : State) → IsSound circuit last state →
    (number : ℕ) (process : ProcessState) → slice_get state.processes number ≡ Some process →
    progress_of process ≤ last + length process.net.pins * last
progress_of-bound circuit ok last state sound number process at =
    let pins : length process.received ≡ length process.net.pins = (sound.processes number process at).pins in
    let each = sum_by-le (λ (k : Knowledge). k.frontier) last process.received (λ place default below.
    received_within circuit ok last state sound number place process (get_or process.received place default) at
    (slice_get-get_or process.received place default below)) in
    let same : length process.received * last ≡ length process.net.pins * last = ap (λ n. n * last) pins in
    let high = frontier_within circuit last number state process sound at in
    omega arith

sum_bound : (last : ℕ) (processes : List ProcessState) →
    ((number : ℕ) (process : ProcessState) → slice_get processes number ≡ Some process → progress_of process ≤ last + length process.net.pins * last) →
    sum_by progress_of processes ≤ length processes * last + pin_count (map (λ (p : ProcessState). p.net) processes) * last
sum_bound last [] h = omega arith
sum_bound last (process ∷ processes) h =
    let first = h 0 process refl in
    let rest = sum_bound last processes (λ number p e. h (suc number) p e) in
    let sum = sum_by-cons progress_of process processes in
    let count : pin_count (map (λ (p : ProcessState). p.net) (process ∷ processes)) * last
    ≡ length process.net.pins * last + pin_count (map (λ (p : ProcessState). p.net) processes) * last =
    ap (λ n. n * last) (pin_count-cons process.net (map (λ (p : ProcessState). p.net) processes))
    ∙ add-mul (length process.net.pins) (pin_count (map (λ (p : ProcessState). p.net) processes)) last in
    let more : suc (length processes) * last ≡ length processes * last + last = suc-mul (length processes) last in
    joined (progress_of process) last (length process.net.pins * last) (sum_by progress_of processes) (length processes * last)
    (pin_count (map (λ (p : ProcessState). p.net) processes) * last) _ _ _ first rest sum count more
  where
    joined : (a l x s n q whole c m : ℕ) → a ≤ l + x → s ≤ n + q → whole ≡ a + s → c ≡ x + q → m ≡ n + l → whole ≤ m + c
    joined a l x s n q whole c m h1 h2 h3 h4 h5 = omega arith

-- the measure is at most the end for each net and pin
pub progress_bound : (circuit : Circuit) → IsCircuit circuit → (last : ℕ) (state : State) → IsSound circuit last state →
    progress state ≤ length circuit * last + pin_count circuit * last
progress_bound circuit ok last state sound =
    let sum = sum_bound last state.processes (progress_of-bound circuit ok last state sound) in
    let nets : length state.processes * last ≡ length circuit * last = ap (λ n. n * last) (net_count circuit last state sound) in
    let pins : pin_count (map (λ (p : ProcessState). p.net) state.processes) * last ≡ pin_count circuit * last =
    ap (λ c. pin_count c * last) sound.nets in
    omega arith

-- so that many events of any list are useful, at most
pub useful_bound : (circuit : Circuit) → IsCircuit circuit → (last : ℕ) (state : State) (events : List Event) → IsSound circuit last state →
    All (Exists circuit) events → useful_count state events ≤ length circuit * last + pin_count circuit * last
useful_bound circuit ok last state events sound exist =
    let raise = useful_raise circuit ok last state events sound exist in
    let bound = progress_bound circuit ok last (steps state events) (steps_sound circuit ok last state events sound exist) in
    omega arith

-- ---- nulls

one_null : (changes : List Change) (to : ℕ) → count_by is_null (news_of changes to) ≤ 1
one_null [] to = omega arith
one_null (change ∷ []) to = go (change.tick + 1 == to)
  where
    go : (all : Bool) → count_by is_null (Changes change ∷ cond all [] (Null to ∷ [])) ≤ 1
    go true = omega arith
    go false = omega arith
one_null (change ∷ next ∷ changes) to =
    let rest = one_null (next ∷ changes) to in
    let count = sum_by-cons (λ m. cond (is_null m) 1 0) (Changes change) (news_of (next ∷ changes) to) in
    omega arith

-- an event sends a null only where it is a useful Advance, and then one at most
pub null_bound : (circuit : Circuit) → IsCircuit circuit → (last : ℕ) (state : State) (event : Event) → IsSound circuit last state →
    Exists circuit event →
    (step state event).counts.nulls ≤ state.counts.nulls + cond (is_advance event) (cond (is_useful state event) 1 0) 0
null_bound circuit ok last state (Deliver pin) sound exists = go (slice_index_or state.lists pin [])
  where
    go : (waiting : List Message) → (after_deliver state pin waiting).counts.nulls ≤ state.counts.nulls + 0
    go [] = omega arith
    go (message ∷ messages) = omega arith
null_bound circuit ok last state (Advance net) sound exists =
    subst (λ ms. state.counts.nulls + count_by is_null ms ≤ state.counts.nulls + cond (is_useful state (Advance net)) 1 0) (sym told)
    (go (next_frontier process.0 == (process.0).known.frontier) refl)
  where
    process : (p : ProcessState) × (slice_get state.processes net ≡ Some p)
    process = get_below state.processes net (let n = net_count circuit last state sound in omega arith)

    told : option_map_or news (slice_get state.processes net) [] ≡ news process.0
    told = ap (λ place. option_map_or news place []) process.1

    go : (same : Bool) → (next_frontier process.0 == (process.0).known.frontier) ≡ same →
        state.counts.nulls + count_by is_null (cond same []
        (news_of (changes_between (reckoned process.0) (process.0).known.frontier (next_frontier process.0)) (next_frontier process.0)))
        ≤ state.counts.nulls + cond (is_useful state (Advance net)) 1 0
    go true e = omega arith
    go false e =
        let apart : next_frontier process.0 ≡ (process.0).known.frontier → ⊥ = eqb-false _ _ e in
        let ahead = (sound.processes net process.0 process.1).ahead in
        let useful : is_useful state (Advance net) ≡ true = advance_useful state net process.0 process.1 (omega (arith, apart, ahead)) in
        let one = one_null (changes_between (reckoned process.0) (process.0).known.frontier (next_frontier process.0)) (next_frontier process.0) in
        subst (λ b. state.counts.nulls + count_by is_null
        (news_of (changes_between (reckoned process.0) (process.0).known.frontier (next_frontier process.0)) (next_frontier process.0))
        ≤ state.counts.nulls + cond b 1 0) (sym useful) (omega arith)

-- the nulls of any list are at most its useful Advances
pub nulls_bound : (circuit : Circuit) → IsCircuit circuit → (last : ℕ) (state : State) (events : List Event) → IsSound circuit last state →
    All (Exists circuit) events → (steps state events).counts.nulls ≤ state.counts.nulls + useful_advances state events
nulls_bound circuit ok last state [] sound exist = omega arith
nulls_bound circuit ok last state (event ∷ events) sound exist =
    let there = All-head (Exists circuit) event events exist in
    let first = null_bound circuit ok last state event sound there in
    let rest = nulls_bound circuit ok last (step state event) events (step_sound circuit ok last state event sound there)
    (All-tail (Exists circuit) event events exist) in
    omega arith
