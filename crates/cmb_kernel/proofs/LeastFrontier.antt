-- A round brings the least frontier at least the least delay farther, or to the end.
use Rattle.std.proofs.Common.{◌≡◌, ℕ, zero, suc, ◌+◌, ◌<◌, ◌≤◌, min, List, [], ◌∷◌, ◌++◌, map, length, replicate, drop, Some, slice_get, slice_index_or, get_or, All, refl, ap, sym, subst, ◌∙◌, arith, ◌⊎◌, inl, inr, add-zero, zero-add}
use Rattle.std.specs.List.{range_with_len}
use Rattle.std.specs.Option.{option_map}
use Rattle.std.proofs.lemmas.Bool.{cases_eq, cases_lt}
use Rattle.std.proofs.lemmas.List.{length-map, get_or_past}
use Rattle.std.proofs.lemmas.List.Elements.{All-nil, All-cons, All-head, All-tail, All-append, All-replicate, All-get_or}
use Rattle.std.proofs.lemmas.Option.{slice_get-map, slice_get_within, get_or_from_slice_get}
use Rattle.design.proofs.CallerLemmas.{timed_at, pins_at}
use Rattle.design.specs.Circuit.{Net, Circuit, IsCircuit, pin_count}
use Rattle.design.specs.Equations.{value_of}
use Rattle.cmb_channels.specs.declared.message.Message.{Message}
use Rattle.design.specs.Pins.{first_pin, net_of_pin, place_of_pin}
use Rattle.cmb_channels.proofs.CallerLemmas.{map-update, IsUpdated, get_of_update, view_of_update_same, view_of_update_other, view_at, length-taken, taken_at, taken_elsewhere}
use Rattle.gate_process.specs.Knowledge.{Knowledge, Tells}
use Rattle.gate_process.specs.Step.{ProcessState, own_delay, safe_of, next_frontier, extended, advanced, heard}
use Rattle.gate_process.proofs.CallerLemmas.{next-farther, get_below, get_of_kept, least-bound, least-le, least_greatest, safe_greatest}
use Rattle.cmb_events.specs.declared.event.Event.{Event}
use Rattle.cmb_events.specs.declared.event.Event.TheVariants.{Deliver, Advance}
use Rattle.cmb_kernel.specs.State.{State, nets_of, frontier_at, least_frontier, least_delay, waiting_at}
use Rattle.cmb_kernel.specs.Step.{after_deliver, after_advance, step, steps, deliveries_from, round_events, round_of}
use Rattle.cmb_events.specs.Schedule.{Exists}
use Rattle.cmb_kernel.specs.Sound.{IsSound}
use Rattle.cmb_kernel.proofs.Soundness.{net_at, step_sound, steps_sound}

pub join : (a b c : ℕ) → a ≤ b → b ≤ c → a ≤ c
join a b c h k = omega arith

pub steps-append : (state : State) (xs ys : List Event) → steps state (xs ++ ys) ≡ steps (steps state xs) ys
steps-append state [] ys = refl
steps-append state (x ∷ xs) ys = steps-append (step state x) xs ys

-- ---- what waits at the pins while they take it

deliver_lists : (state : State) (pin : ℕ) → length (step state (Deliver pin)).lists ≡ length state.lists
deliver_lists state pin = go (waiting_at state pin)
  where
    go : (waiting : List Message) → length (after_deliver state pin waiting).lists ≡ length state.lists
    go [] = refl
    go (message ∷ messages) = length-taken pin state.lists

pub deliver_there : (state : State) (pin : ℕ) → pin < length state.lists → waiting_at (step state (Deliver pin)) pin ≡ drop 1 (waiting_at state pin)
deliver_there state pin h = go (waiting_at state pin) refl
  where
    go : (waiting : List Message) → waiting_at state pin ≡ waiting → waiting_at (after_deliver state pin waiting) pin ≡ drop 1 (waiting_at state pin)
    go [] e = e ∙ sym (ap (λ ms. drop 1 ms) e)
    go (message ∷ messages) e = taken_at pin state.lists h

pub deliver_elsewhere : (state : State) (pin other : ℕ) → (other ≡ pin → ⊥) → waiting_at (step state (Deliver pin)) other ≡ waiting_at state other
deliver_elsewhere state pin other h = go (waiting_at state pin)
  where
    go : (waiting : List Message) → waiting_at (after_deliver state pin waiting) other ≡ waiting_at state other
    go [] = refl
    go (message ∷ messages) = taken_elsewhere pin state.lists other h

-- as many deliveries as wait at a pin empty it, and leave the other pins
record Emptied (old new : State) (pin : ℕ) : Type 0 where
  lists : length new.lists ≡ length old.lists
  there : waiting_at new pin ≡ []
  elsewhere : (other : ℕ) → (other ≡ pin → ⊥) → waiting_at new other ≡ waiting_at old other

emptied : (state : State) (pin : ℕ) (waiting : List Message) → pin < length state.lists → waiting_at state pin ≡ waiting →
    Emptied state (steps state (replicate (length waiting) (Deliver pin))) pin
emptied state pin [] h e = record { lists = refl; there = e; elsewhere = λ other apart. refl }
emptied state pin (message ∷ messages) h e =
    let same = deliver_lists state pin in
    let rest = emptied (step state (Deliver pin)) pin messages (omega arith)
    (deliver_there state pin h ∙ ap (λ ms. drop 1 ms) e) in
    record {
      lists = rest.lists ∙ same;
      there = rest.there;
      elsewhere = λ other apart. rest.elsewhere other apart ∙ deliver_elsewhere state pin other apart;
    }

-- the deliveries of a round empty all pins
pub all_emptied : (state : State) (pin : ℕ) (lists : List (List Message)) → pin + length lists ≡ length state.lists →
    ((place : ℕ) → waiting_at state (pin + place) ≡ slice_index_or lists place []) →
    ((other : ℕ) → other < pin → waiting_at state other ≡ []) →
    (other : ℕ) → waiting_at (steps state (deliveries_from pin lists)) other ≡ []
all_emptied state pin [] count same before other = go (cases_lt other pin)
  where
    go : (other < pin) ⊎ (pin ≤ other) → waiting_at state other ≡ []
    go (inl early) = before other early
    go (inr late) = get_or_past state.lists other [] (omega arith)
all_emptied state pin (list ∷ lists) count same before other =
    ap (λ s. waiting_at s other) (steps-append state (replicate (length list) (Deliver pin)) (deliveries_from (pin + 1) lists))
    ∙ all_emptied after (pin + 1) lists (omega (arith, now.lists))
    (λ place.
    now.elsewhere (pin + 1 + place) (λ e. omega arith)
    ∙ ap (λ n. waiting_at state n) (let e : pin + 1 + place ≡ pin + suc place = omega arith in e)
    ∙ same (suc place))
    (λ n early. go n early (cases_eq n pin))
    other
  where
    after : State
    after = steps state (replicate (length list) (Deliver pin))

    here : waiting_at state pin ≡ list
    here = ap (λ n. waiting_at state n) (sym (add-zero pin)) ∙ same 0

    now : Emptied state (steps state (replicate (length list) (Deliver pin))) pin
    now = emptied state pin list (omega arith) here

    go : (n : ℕ) → n < pin + 1 → (n ≡ pin) ⊎ (n ≡ pin → ⊥) →
        waiting_at (steps state (replicate (length list) (Deliver pin))) n ≡ []
    go n early (inl is) = ap (λ m. waiting_at (steps state (replicate (length list) (Deliver pin))) m) is ∙ now.there
    go n early (inr apart) = now.elsewhere n apart ∙ before n (omega (arith, apart))

-- ---- frontiers do not fall

pub frontier_rises : (circuit : Circuit) (last : ℕ) (state : State) (event : Event) → IsSound circuit last state → Exists circuit event →
    (number : ℕ) → frontier_at state number ≤ frontier_at (step state event) number
frontier_rises circuit last state (Deliver pin) sound exists number = go (waiting_at state pin)
  where
    go : (waiting : List Message) → frontier_at state number ≤ frontier_at (after_deliver state pin waiting) number
    go [] = omega arith
    go (message ∷ messages) =
        let same : frontier_at (after_deliver state pin (message ∷ messages)) number ≡ frontier_at state number =
        ap (λ ns. slice_index_or ns number 0)
        (map-update (λ (p : ProcessState). p.known.frontier) (heard (place_of_pin (nets_of state) pin) message)
        (net_of_pin (nets_of state) pin) state.processes (λ p. refl)) in
        omega arith
frontier_rises circuit last state (Advance net) sound exists number = go (cases_eq number net)
  where
    nets : length state.processes ≡ length circuit
    nets = sym (length-map state.processes (λ (p : ProcessState). p.net)) ∙ ap length sound.nets

    go : (number ≡ net) ⊎ (number ≡ net → ⊥) → frontier_at state number ≤ frontier_at (after_advance state net) number
    go (inl is) =
        let mover = get_below state.processes net (omega (arith, nets)) in
        let ahead = (sound.processes net mover.0 mover.1).ahead in
        let new : frontier_at (after_advance state net) number ≡ next_frontier mover.0 =
        ap (λ n. frontier_at (after_advance state net) n) is
        ∙ view_of_update_same (λ (p : ProcessState). p.known.frontier) advanced net state.processes mover.0 mover.1 in
        let old : frontier_at state number ≡ (mover.0).known.frontier =
        ap (λ n. frontier_at state n) is ∙ view_at (λ (p : ProcessState). p.known.frontier) state.processes net mover.0 mover.1 in
        omega arith
    go (inr apart) =
        let same : frontier_at (after_advance state net) number ≡ frontier_at state number =
        view_of_update_other (λ (p : ProcessState). p.known.frontier) advanced net state.processes number apart in
        omega arith

pub frontiers_rise : (circuit : Circuit) → IsCircuit circuit → (last : ℕ) (state : State) (events : List Event) → IsSound circuit last state →
    All (Exists circuit) events → (number : ℕ) → frontier_at state number ≤ frontier_at (steps state events) number
frontiers_rise circuit ok last state [] sound exist number = omega arith
frontiers_rise circuit ok last state (event ∷ events) sound exist number =
    let there = All-head (Exists circuit) event events exist in
    let now = frontier_rises circuit last state event sound there number in
    let later = frontiers_rise circuit ok last (step state event) events
    (step_sound circuit ok last state event sound there) (All-tail (Exists circuit) event events exist) number in
    omega arith

-- ---- pins that know up to a tick, and what an Advance makes of them

-- each pin of a net knows its source up to this tick
abbrev pub NetKnows : ℕ → State → ℕ → Type 0
NetKnows low state number = (place : ℕ) (process : ProcessState) (received : Knowledge) →
    slice_get state.processes number ≡ Some process → slice_get process.received place ≡ Some received → low ≤ received.frontier

-- each pin knows its source up to this tick
abbrev pub PinsKnow : ℕ → State → Type 0
PinsKnow low state = (number : ℕ) → NetKnows low state number

-- an Advance leaves what the pins know
pins_know_on : (low : ℕ) (state : State) (net : ℕ) → PinsKnow low state → PinsKnow low (step state (Advance net))
pins_know_on low state net h number place process received a b = go (get_of_update advanced net state.processes number process a)
  where
    go : IsUpdated advanced net state.processes number process → low ≤ received.frontier
    go (inl same) =
        let c : slice_get (advanced same.1.0).received place ≡ Some received =
        subst (λ (p : ProcessState). slice_get p.received place ≡ Some received) same.1.2 b in
        let old = get_of_kept (extended same.1.0) (same.1.0).received place received c in
        let frontier : received.frontier ≡ (old.0).frontier = ap (λ (k : Knowledge). k.frontier) old.2 in
        let known = h net place same.1.0 old.0 same.1.1 old.1 in
        omega arith
    go (inr other) = h number place process received other.1 b

-- where no message waits a pin knows what its source knows
pub pin_knows : (circuit : Circuit) (last low : ℕ) (state : State) → IsSound circuit last state → IsCircuit circuit →
    (number place : ℕ) → waiting_at state (first_pin circuit number + place) ≡ [] →
    ((source : ℕ) → source < length circuit → low ≤ frontier_at state source) → (process : ProcessState) (received : Knowledge) →
    slice_get state.processes number ≡ Some process → slice_get process.received place ≡ Some received → low ≤ received.frontier
pin_knows circuit last low state sound ok number place empty frontiers process received a b =
    let pins : length process.received ≡ length process.net.pins = (sound.processes number process a).pins in
    let within : place < length process.received = slice_get_within process.received place received b in
    let source = get_below process.net.pins place (omega arith) in
    let tells : received.frontier ≡ frontier_at state source.0 =
    subst (λ ms. Tells (value_of circuit source.0) received.frontier (frontier_at state source.0) ms)
    empty (sound.waiting number place source.0 process received a source.1 b) in
    let there : get_or process.net.pins place 0 < length circuit =
    All-get_or (λ pin. pin < length circuit) process.net.pins place 0 (omega arith)
    (pins_at circuit ok number process.net (net_at circuit ok last state sound number process a)) in
    let is : get_or process.net.pins place 0 ≡ source.0 = get_or_from_slice_get process.net.pins place source.0 0 source.1 in
    let known = frontiers source.0 (omega arith) in
    omega arith

pub pins_know : (circuit : Circuit) (last low : ℕ) (state : State) → IsSound circuit last state → IsCircuit circuit →
    ((pin : ℕ) → waiting_at state pin ≡ []) →
    ((number : ℕ) → number < length circuit → low ≤ frontier_at state number) → PinsKnow low state
pins_know circuit last low state sound ok empty frontiers number place =
    pin_knows circuit last low state sound ok number place (empty (first_pin circuit number + place)) frontiers

pub net_count : (circuit : Circuit) (last : ℕ) (state : State) → IsSound circuit last state → length state.processes ≡ length circuit
net_count circuit last state sound = sym (length-map state.processes (λ (p : ProcessState). p.net)) ∙ ap length sound.nets

-- an advancing net comes at least the least delay farther than its pins
pub advances_farther : (circuit : Circuit) (last low : ℕ) (state : State) (net : ℕ) → IsSound circuit last state → IsCircuit circuit →
    low ≤ last → NetKnows low state net → net < length circuit →
    min last (low + least_delay last circuit) ≤ frontier_at (step state (Advance net)) net
advances_farther circuit last low state net sound ok h know below =
    let nets = net_count circuit last state sound in
    let mover = get_below state.processes net (omega arith) in
    let process : ProcessState = mover.0 in
    let end : (mover.0).end ≡ last = sound.ends net mover.0 mover.1 in
    let at : slice_get circuit net ≡ Some (mover.0).net = net_at circuit ok last state sound net mover.0 mover.1 in
    let safe : low ≤ safe_of mover.0 =
    safe_greatest mover.0 low (omega arith) (λ place known e. know place mover.0 known mover.1 e) in
    let delay : least_delay last circuit ≤ own_delay (mover.0).net.part last (mover.0).net.timing.delay =
    least-le last (map (λ (n : Net). own_delay n.part last n.timing.delay) circuit) net _
    (slice_get-map (λ (n : Net). own_delay n.part last n.timing.delay) circuit net ∙ ap (option_map (λ (n : Net). own_delay n.part last n.timing.delay)) at) in
    let farther : min (mover.0).end (low + least_delay last circuit) ≤ next_frontier mover.0 =
    next-farther mover.0 low (least_delay last circuit)
    (timed_at circuit ok net (mover.0).net at).timing.clock safe
    (subst (λ n. least_delay last circuit ≤ own_delay (mover.0).net.part n (mover.0).net.timing.delay) (sym end) delay) in
    let new : frontier_at (step state (Advance net)) net ≡ next_frontier mover.0 =
    view_of_update_same (λ (p : ProcessState). p.known.frontier) advanced net state.processes mover.0 mover.1 in
    same_end (mover.0).end last (low + least_delay last circuit) _ _ end farther new
  where
    same_end : (a b x f g : ℕ) → a ≡ b → min a x ≤ f → g ≡ f → min b x ≤ g
    same_end a b x f g h k e = omega arith

pub advances_exist : (circuit : Circuit) (from count : ℕ) → from + count ≤ length circuit →
    All (Exists circuit) (map Advance (range_with_len from count))
advances_exist circuit from zero h = All-nil (Exists circuit)
advances_exist circuit from (suc count) h =
    All-cons (Exists circuit) (Advance from) (map Advance (range_with_len (from + 1) count)) (omega arith)
    (advances_exist circuit (from + 1) count (omega arith))

pub deliveries_exist : (circuit : Circuit) (pin : ℕ) (lists : List (List Message)) → pin + length lists ≤ pin_count circuit →
    All (Exists circuit) (deliveries_from pin lists)
deliveries_exist circuit pin [] h = All-nil (Exists circuit)
deliveries_exist circuit pin (list ∷ lists) h =
    All-append (Exists circuit) (replicate (length list) (Deliver pin)) (deliveries_from (pin + 1) lists)
    (All-replicate (Exists circuit) (length list) (Deliver pin) (omega arith))
    (deliveries_exist circuit (pin + 1) lists (omega arith))

-- after each net advanced once all are that far
all_advance : (circuit : Circuit) → IsCircuit circuit → (last low : ℕ) (state : State) (from count : ℕ) → IsSound circuit last state →
    low ≤ last → PinsKnow low state → from + count ≡ length circuit →
    (number : ℕ) → from ≤ number → number < length circuit →
    min last (low + least_delay last circuit) ≤ frontier_at (steps state (map Advance (range_with_len from count))) number
all_advance circuit ok last low state from zero sound h know e number a b = absurd (omega arith)
all_advance circuit ok last low state from (suc count) sound h know e number a b =
    go (cases_lt from number) (λ later.
    all_advance circuit ok last low (step state (Advance from)) (from + 1) count
    (step_sound circuit ok last state (Advance from) sound (omega arith)) h (pins_know_on low state from know)
    (omega arith) number (omega arith) b)
  where
    after : IsSound circuit last (step state (Advance from))
    after = step_sound circuit ok last state (Advance from) sound (omega arith)

    go : (from < number) ⊎ (number ≤ from) →
        (from < number → min last (low + least_delay last circuit)
        ≤ frontier_at (steps (step state (Advance from)) (map Advance (range_with_len (from + 1) count))) number) →
        min last (low + least_delay last circuit)
        ≤ frontier_at (steps (step state (Advance from)) (map Advance (range_with_len (from + 1) count))) number
    go (inl later) rest = rest later
    go (inr early) rest =
        let now = advances_farther circuit last low state from sound ok h (know from) (omega arith) in
        let rises = frontiers_rise circuit ok last (step state (Advance from)) (map Advance (range_with_len (from + 1) count)) after
        (advances_exist circuit (from + 1) count (omega arith)) from in
        subst (λ n. min last (low + least_delay last circuit)
        ≤ frontier_at (steps (step state (Advance from)) (map Advance (range_with_len (from + 1) count))) n)
        (let is : from ≡ number = omega arith in is)
        (join (min last (low + least_delay last circuit)) _ _ now rises)

-- ---- a round

pub round_exists : (circuit : Circuit) (last : ℕ) (state : State) → IsSound circuit last state → All (Exists circuit) (round_events state)
round_exists circuit last state sound =
    All-append (Exists circuit) (deliveries_from 0 state.lists) (map Advance (range_with_len 0 (length state.processes)))
    (deliveries_exist circuit 0 state.lists (let l = sound.lists in omega arith))
    (advances_exist circuit 0 (length state.processes) (let l = net_count circuit last state sound in omega arith))

pub round_sound : (circuit : Circuit) → IsCircuit circuit → (last : ℕ) (state : State) → IsSound circuit last state →
    IsSound circuit last (round_of state)
round_sound circuit ok last state sound =
    let after = steps_sound circuit ok last state (round_events state) sound (round_exists circuit last state sound) in
    record { nets = after.nets; lists = after.lists; ends = after.ends; processes = after.processes; waiting = after.waiting }

-- no frontier is below the least
pub least_frontier-le : (circuit : Circuit) (last : ℕ) (state : State) → IsSound circuit last state → (number : ℕ) → number < length circuit →
    least_frontier last state ≤ frontier_at state number
least_frontier-le circuit last state sound number h =
    let nets = net_count circuit last state sound in
    let process = get_below state.processes number (omega arith) in
    let is : frontier_at state number ≡ (process.0).known.frontier =
    view_at (λ (p : ProcessState). p.known.frontier) state.processes number process.0 process.1 in
    let le = least-le last (map (λ (p : ProcessState). p.known.frontier) state.processes) number (process.0).known.frontier
    (slice_get-map (λ (p : ProcessState). p.known.frontier) state.processes number ∙ ap (option_map (λ (p : ProcessState). p.known.frontier)) process.1) in
    omega arith

-- what no frontier is below, the least isn't
pub least_frontier_greatest : (circuit : Circuit) (last low : ℕ) (state : State) → IsSound circuit last state → low ≤ last →
    ((number : ℕ) → number < length circuit → low ≤ frontier_at state number) → low ≤ least_frontier last state
least_frontier_greatest circuit last low state sound h each =
    least_greatest last (map (λ (p : ProcessState). p.known.frontier) state.processes) low h (λ place x e.
    let nets = net_count circuit last state sound in
    let within = slice_get_within (map (λ (p : ProcessState). p.known.frontier) state.processes) place x e in
    let count = length-map state.processes (λ (p : ProcessState). p.known.frontier) in
    let there = each place (omega arith) in
    let is : frontier_at state place ≡ x = get_or_from_slice_get (map (λ (p : ProcessState). p.known.frontier) state.processes) place x 0 e in
    omega arith)

-- a round brings the least frontier at least the least delay farther, or to the end
pub round_raises : (circuit : Circuit) → IsCircuit circuit → (last : ℕ) (state : State) → IsSound circuit last state →
    min last (least_frontier last state + least_delay last circuit) ≤ least_frontier last (round_of state)
round_raises circuit ok last state sound =
    least_frontier_greatest circuit last (min last (least_frontier last state + least_delay last circuit)) (round_of state)
    (round_sound circuit ok last state sound) (omega arith)
    (λ number h.
    subst (λ s. min last (least_frontier last state + least_delay last circuit) ≤ frontier_at s number)
    (sym (steps-append state (deliveries_from 0 state.lists) (map Advance (range_with_len 0 (length state.processes)))))
    (all_advance circuit ok last (least_frontier last state) delivered 0 (length state.processes) delivered_sound
    (least-bound last (map (λ (p : ProcessState). p.known.frontier) state.processes)) known
    (let n = net_count circuit last state sound in omega arith) number (omega arith) h))
  where
    delivered : State
    delivered = steps state (deliveries_from 0 state.lists)

    exist : All (Exists circuit) (deliveries_from 0 state.lists)
    exist = deliveries_exist circuit 0 state.lists (let l = sound.lists in omega arith)

    delivered_sound : IsSound circuit last (steps state (deliveries_from 0 state.lists))
    delivered_sound = steps_sound circuit ok last state (deliveries_from 0 state.lists) sound exist

    known : PinsKnow (least_frontier last state) (steps state (deliveries_from 0 state.lists))
    known = pins_know circuit last (least_frontier last state) (steps state (deliveries_from 0 state.lists)) delivered_sound ok
        (all_emptied state 0 state.lists (zero-add (length state.lists)) (λ place. ap (λ n. waiting_at state n) (zero-add place))
        (λ other h. absurd (omega arith)))
        (λ number h.
        let now = least_frontier-le circuit last state sound number h in
        let rises = frontiers_rise circuit ok last state (deliveries_from 0 state.lists) sound exist number in
        join (least_frontier last state) (frontier_at state number) (frontier_at (steps state (deliveries_from 0 state.lists)) number) now rises)
