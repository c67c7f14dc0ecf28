-- The frontiers after a round rise with those before it.
use Rattle.std.proofs.Common.{◌≡◌, ℕ, zero, suc, ◌+◌, ◌<◌, ◌≤◌, List, [], ◌∷◌, map, length, replicate, Some, slice_get, slice_index_or, get_or, refl, ap, sym, subst, ◌∙◌, arith, ◌⊎◌, inl, inr, zero-add}
use Rattle.std.specs.List.{range_with_len}
use Rattle.std.proofs.lemmas.Bool.{cases_lt}
use Rattle.std.proofs.lemmas.List.{length-map, get_or_past}
use Rattle.std.proofs.lemmas.Option.{same_Some, slice_get-get_or, get_or_from_slice_get}
use Rattle.design.specs.Circuit.{Net, Circuit, IsCircuit}
use Rattle.design.specs.Equations.{value_of}
use Rattle.cmb_channels.specs.declared.message.Message.{Message}
use Rattle.design.specs.Pins.{first_pin, net_of_pin, place_of_pin}
use Rattle.cmb_channels.proofs.CallerLemmas.{map-update, view_at, get_update_same, get_update_other}
use Rattle.gate_process.specs.Knowledge.{Knowledge, Tells}
use Rattle.gate_process.specs.Step.{ProcessState, next_frontier, advanced, heard}
use Rattle.gate_process.specs.Truth.{KnowsTruth}
use Rattle.gate_process.proofs.CallerLemmas.{get_below, next-mono}
use Rattle.cmb_events.specs.declared.event.Event.TheVariants.{Deliver, Advance}
use Rattle.cmb_kernel.specs.State.{State, started, nets_of, frontier_at, IsComplete, waiting_at}
use Rattle.cmb_kernel.specs.Step.{step, steps, after_deliver, deliveries_from, round_of, rounds}
use Rattle.cmb_kernel.specs.Sound.{IsSound}
use Rattle.cmb_kernel.proofs.Soundness.{net_at, meets_at, started_frontier, started_sound, steps_sound}
use Rattle.cmb_kernel.proofs.LeastFrontier.{steps-append, net_count, all_emptied, deliveries_exist, round_sound}
use Rattle.cmb_kernel.proofs.Completion.{frontier_within, rounds_sound}

-- ---- deliveries leave the nets' frontiers

pub deliver_frontier : (state : State) (pin number : ℕ) → frontier_at (step state (Deliver pin)) number ≡ frontier_at state number
deliver_frontier state pin number = go (waiting_at state pin)
  where
    go : (waiting : List Message) → frontier_at (after_deliver state pin waiting) number ≡ frontier_at state number
    go [] = refl
    go (message ∷ messages) =
        ap (λ ns. slice_index_or ns number 0)
        (map-update (λ (p : ProcessState). p.known.frontier) (heard (place_of_pin (nets_of state) pin) message)
        (net_of_pin (nets_of state) pin) state.processes (λ p. refl))

deliver_frontiers : (state : State) (pin count number : ℕ) →
    frontier_at (steps state (replicate count (Deliver pin))) number ≡ frontier_at state number
deliver_frontiers state pin zero number = refl
deliver_frontiers state pin (suc count) number =
    deliver_frontiers (step state (Deliver pin)) pin count number ∙ deliver_frontier state pin number

deliveries_frontier : (state : State) (pin : ℕ) (lists : List (List Message)) (number : ℕ) →
    frontier_at (steps state (deliveries_from pin lists)) number ≡ frontier_at state number
deliveries_frontier state pin [] number = refl
deliveries_frontier state pin (list ∷ lists) number =
    ap (λ s. frontier_at s number) (steps-append state (replicate (length list) (Deliver pin)) (deliveries_from (pin + 1) lists))
    ∙ deliveries_frontier (steps state (replicate (length list) (Deliver pin))) (pin + 1) lists number
    ∙ deliver_frontiers state pin (length list) number

-- ---- each net advances once

unmoved : (state : State) (from count number : ℕ) → number < from →
    slice_get (steps state (map Advance (range_with_len from count))).processes number ≡ slice_get state.processes number
unmoved state from zero number h = refl
unmoved state from (suc count) number h =
    unmoved (step state (Advance from)) (from + 1) count number (omega arith)
    ∙ get_update_other advanced from state.processes number (λ e. omega arith)

advanced_once : (state : State) (from count number : ℕ) (process : ProcessState) → slice_get state.processes number ≡ Some process →
    from ≤ number → number < from + count →
    slice_get (steps state (map Advance (range_with_len from count))).processes number ≡ Some (advanced process)
advanced_once state from zero number process e a b = absurd (omega arith)
advanced_once state from (suc count) number process e a b =
    go (cases_lt from number) (λ late. advanced_once (step state (Advance from)) (from + 1) count number process
    (get_update_other advanced from state.processes number (λ same. omega arith) ∙ e) (omega arith) (omega arith))
  where
    go : (from < number) ⊎ (number ≤ from) →
        (from < number → slice_get (steps (step state (Advance from)) (map Advance (range_with_len (from + 1) count))).processes number ≡ Some (advanced process)) →
        slice_get (steps (step state (Advance from)) (map Advance (range_with_len (from + 1) count))).processes number ≡ Some (advanced process)
    go (inl late) rest = rest late
    go (inr early) rest =
        let is : from ≡ number = omega arith in
        unmoved (step state (Advance from)) (from + 1) count number (omega arith)
        ∙ ap (λ n. slice_get (step state (Advance n)).processes number) is
        ∙ get_update_same advanced number state.processes process e

-- the process of a net once all that waits is delivered: what its pins received has the frontiers that their sources had, and a round
-- brings the net as far as it leads
record IsDelivered (circuit : Circuit) (last : ℕ) (state : State) (number : ℕ) (process : ProcessState) : Type 0 where
  net : slice_get circuit number ≡ Some process.net
  end : process.end ≡ last
  knows : KnowsTruth (value_of circuit) number process
  frontier : process.known.frontier ≡ frontier_at state number
  heard : (place source : ℕ) (known : Knowledge) → slice_get process.net.pins place ≡ Some source → slice_get process.received place ≡ Some known →
      known.frontier ≡ frontier_at state source
  moves : frontier_at (round_of state) number ≡ next_frontier process

delivered_process : (circuit : Circuit) → IsCircuit circuit → (last : ℕ) (state : State) → IsSound circuit last state → (number : ℕ) →
    number < length circuit → (process : ProcessState) × IsDelivered circuit last state number process
delivered_process circuit ok last state sound number below = (
  process.0,
  record {
    net = net_at circuit ok last (steps state (deliveries_from 0 state.lists)) delivered_sound number process.0 process.1;
    end = delivered_sound.ends number process.0 process.1;
    knows = delivered_sound.processes number process.0 process.1;
    frontier = sym (view_at (λ (p : ProcessState). p.known.frontier) (steps state (deliveries_from 0 state.lists)).processes number process.0 process.1)
        ∙ deliveries_frontier state 0 state.lists number;
    heard = λ place source known a b.
        let tells : known.frontier ≡ frontier_at (steps state (deliveries_from 0 state.lists)) source =
        subst (λ ms. Tells (value_of circuit source) known.frontier (frontier_at (steps state (deliveries_from 0 state.lists)) source) ms)
        (empty (first_pin circuit number + place)) (delivered_sound.waiting number place source process.0 known process.1 a b) in
        tells ∙ deliveries_frontier state 0 state.lists source;
    moves = ap (λ s. frontier_at s number) (steps-append state (deliveries_from 0 state.lists) (map Advance (range_with_len 0 (length state.processes))))
        ∙ view_at (λ (p : ProcessState). p.known.frontier)
        (steps (steps state (deliveries_from 0 state.lists)) (map Advance (range_with_len 0 (length state.processes)))).processes number (advanced process.0)
        (advanced_once (steps state (deliveries_from 0 state.lists)) 0 (length state.processes) number process.0 process.1 (omega arith)
        (omega (arith, below, net_count circuit last state sound)));
  },
)
  where
    delivered_sound : IsSound circuit last (steps state (deliveries_from 0 state.lists))
    delivered_sound = steps_sound circuit ok last state (deliveries_from 0 state.lists) sound
        (deliveries_exist circuit 0 state.lists (let l = sound.lists in omega arith))

    empty : (pin : ℕ) → waiting_at (steps state (deliveries_from 0 state.lists)) pin ≡ []
    empty = all_emptied state 0 state.lists (zero-add (length state.lists)) (λ place. ap (λ n. waiting_at state n) (zero-add place))
        (λ other h. absurd (omega arith))

    process : (p : ProcessState) × (slice_get (steps state (deliveries_from 0 state.lists)).processes number ≡ Some p)
    process = get_below (steps state (deliveries_from 0 state.lists)).processes number
        (let n = net_count circuit last (steps state (deliveries_from 0 state.lists)) delivered_sound in omega (arith, n, below))

-- a state that is ahead of another stays ahead by a round
pub round_ahead : (circuit : Circuit) → IsCircuit circuit → (last : ℕ) (old new : State) → IsSound circuit last old → IsSound circuit last new →
    ((number : ℕ) → frontier_at old number ≤ frontier_at new number) →
    (number : ℕ) → frontier_at (round_of old) number ≤ frontier_at (round_of new) number
round_ahead circuit ok last old new sound_old sound_new ahead number = go (cases_lt number (length circuit))
  where
    go : (number < length circuit) ⊎ (length circuit ≤ number) → frontier_at (round_of old) number ≤ frontier_at (round_of new) number
    go (inl there) =
        let one = delivered_process circuit ok last old sound_old number there in
        let other = delivered_process circuit ok last new sound_new number there in
        let more = next-mono (value_of circuit) number one.0 other.0 (meets_at circuit ok number (one.0).net (one.1).net) (one.1).knows
        (meets_at circuit ok number (other.0).net (other.1).net) (other.1).knows
        (same_Some (one.0).net (other.0).net (sym (one.1).net ∙ (other.1).net)) ((one.1).end ∙ sym (other.1).end)
        (omega (arith, (one.1).frontier, (other.1).frontier, ahead number))
        (λ place source first second pin a b.
        let same = same_Some (one.0).net (other.0).net (sym (one.1).net ∙ (other.1).net) in
        let low = (one.1).heard place source first (ap (λ (n : Net). slice_get n.pins place) same ∙ pin) a in
        let high = (other.1).heard place source second pin b in
        omega (arith, low, high, ahead source)) in
        omega (arith, more, (one.1).moves, (other.1).moves)
    go (inr past) =
        let count = net_count circuit last (round_of old) (round_sound circuit ok last old sound_old) in
        let none : frontier_at (round_of old) number ≡ 0 =
        get_or_past (map (λ (p : ProcessState). p.known.frontier) (round_of old).processes) number 0
        (let l = length-map (round_of old).processes (λ (p : ProcessState). p.known.frontier) in omega arith) in
        omega arith

pub rounds_ahead : (circuit : Circuit) → IsCircuit circuit → (last count : ℕ) (old new : State) → IsSound circuit last old → IsSound circuit last new →
    ((number : ℕ) → frontier_at old number ≤ frontier_at new number) →
    (number : ℕ) → frontier_at (rounds count old) number ≤ frontier_at (rounds count new) number
rounds_ahead circuit ok last zero old new a b ahead number = ahead number
rounds_ahead circuit ok last (suc count) old new a b ahead number =
    rounds_ahead circuit ok last count (round_of old) (round_of new) (round_sound circuit ok last old a) (round_sound circuit ok last new b)
    (round_ahead circuit ok last old new a b ahead) number

-- so many rounds bring each net at least as far as from a fresh start
pub fresh_ahead : (circuit : Circuit) → IsCircuit circuit → (last count : ℕ) (state : State) → IsSound circuit last state →
    (number : ℕ) → frontier_at (rounds count (started circuit last)) number ≤ frontier_at (rounds count state) number
fresh_ahead circuit ok last count state sound =
    rounds_ahead circuit ok last count (started circuit last) state (started_sound circuit last) sound
    (λ n. let z = started_frontier last circuit n in omega arith)

-- what happened before costs no round: rounds that complete a fresh run complete any sound state
pub never_costs : (circuit : Circuit) → IsCircuit circuit → (last count : ℕ) (state : State) → IsSound circuit last state →
    IsComplete (rounds count (started circuit last)) → IsComplete (rounds count state)
never_costs circuit ok last count state sound complete number default below =
    let fresh = rounds_sound circuit ok last count (started circuit last) (started_sound circuit last) in
    let now = rounds_sound circuit ok last count state sound in
    let nets_fresh = net_count circuit last (rounds count (started circuit last)) fresh in
    let nets_now = net_count circuit last (rounds count state) now in
    let ahead = fresh_ahead circuit ok last count state sound number in
    let old = get_below (rounds count (started circuit last)).processes number (omega arith) in
    let at : slice_get (rounds count state).processes number ≡ Some (get_or (rounds count state).processes number default) =
    slice_get-get_or (rounds count state).processes number default below in
    let is_old : frontier_at (rounds count (started circuit last)) number ≡ (old.0).known.frontier =
    view_at (λ (p : ProcessState). p.known.frontier) (rounds count (started circuit last)).processes number old.0 old.1 in
    let is_new : frontier_at (rounds count state) number ≡ (get_or (rounds count state).processes number default).known.frontier =
    view_at (λ (p : ProcessState). p.known.frontier) (rounds count state).processes number _ at in
    let same : get_or (rounds count (started circuit last)).processes number old.0 ≡ old.0 = get_or_from_slice_get _ number old.0 old.0 old.1 in
    let done : (old.0).known.frontier ≡ (old.0).end =
    subst (λ (p : ProcessState). p.known.frontier ≡ p.end) same (complete number old.0 (omega arith)) in
    let end_old = fresh.ends number old.0 old.1 in
    let end_new = now.ends number (get_or (rounds count state).processes number default) at in
    let high = frontier_within circuit last number (rounds count state) (get_or (rounds count state).processes number default) now at in
    omega arith
