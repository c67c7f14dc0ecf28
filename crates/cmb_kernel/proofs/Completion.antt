-- Enough rounds complete a run.
use Rattle.std.proofs.Common.{◌≡◌, ℕ, zero, suc, ◌+◌, ◌*◌, ◌<◌, ◌≤◌, ◌==◌, min, Bool, true, false, cond, map, length, Some, slice_get, get_or, refl, ap, sym, subst, ◌∙◌, arith}
use Rattle.std.proofs.lemmas.Bool.{eqb-true, eqb-false, eq-eqb}
use Rattle.std.proofs.lemmas.List.Sums.{AllPass-from_list_all, list_all-from_AllPass}
use Rattle.std.proofs.lemmas.Option.{slice_get-get_or, get_or_from_slice_get}
use Rattle.std.proofs.Math.Nat.{suc-mul}
use Rattle.design.specs.Circuit.{Circuit, IsCircuit}
use Rattle.gate_process.specs.Step.{ProcessState, next_frontier}
use Rattle.gate_process.proofs.CallerLemmas.{next-end, get_below, least-bound}
use Rattle.cmb_channels.proofs.CallerLemmas.{view_at}
use Rattle.cmb_kernel.specs.State.{State, frontier_at, least_frontier, least_delay, IsComplete, is_complete}
use Rattle.cmb_kernel.specs.Step.{round_of, rounds, completed_within}
use Rattle.cmb_kernel.specs.Sound.{IsSound}
use Rattle.cmb_kernel.proofs.LeastFrontier.{net_count, least_frontier-le, least_frontier_greatest, round_sound, round_raises}

pub rounds_sound : (circuit : Circuit) → IsCircuit circuit → (last : ℕ) (count : ℕ) (state : State) → IsSound circuit last state →
    IsSound circuit last (rounds count state)
rounds_sound circuit ok last zero state sound = sound
rounds_sound circuit ok last (suc count) state sound =
    rounds_sound circuit ok last count (round_of state) (round_sound circuit ok last state sound)

-- so many rounds bring the least frontier so many least delays farther, or to the end
pub rounds_raise : (circuit : Circuit) → IsCircuit circuit → (last : ℕ) (count : ℕ) (state : State) → IsSound circuit last state →
    min last (least_frontier last state + count * least_delay last circuit) ≤ least_frontier last (rounds count state)
rounds_raise circuit ok last zero state sound =
    none last (least_frontier last state) (least_delay last circuit)
  where
    none : (a b c : ℕ) → min a (b + 0 * c) ≤ b
    none a b c = omega arith
rounds_raise circuit ok last (suc count) state sound =
    more last (least_frontier last state) (least_frontier last (round_of state)) (least_frontier last (rounds count (round_of state)))
    (least_delay last circuit) (count * least_delay last circuit) (suc count * least_delay last circuit)
    (round_raises circuit ok last state sound)
    (rounds_raise circuit ok last count (round_of state) (round_sound circuit ok last state sound))
    (suc-mul count (least_delay last circuit))
  where
    more : (last a b c d m n : ℕ) → min last (a + d) ≤ b → min last (b + m) ≤ c → n ≡ m + d → min last (a + n) ≤ c
    more last a b c d m n h k e = omega arith

-- no frontier is past the end
pub frontier_within : (circuit : Circuit) (last number : ℕ) (state : State) (process : ProcessState) → IsSound circuit last state →
    slice_get state.processes number ≡ Some process → process.known.frontier ≤ last
frontier_within circuit last number state process sound e =
    let ahead = (sound.processes number process e).ahead in
    let end = sound.ends number process e in
    let within : next_frontier process ≤ process.end = next-end process in
    omega arith

-- the frontier that none is below is the least one
pub least_frontier_at : (circuit : Circuit) (last : ℕ) (state : State) → IsSound circuit last state → (net : ℕ) → net < length circuit →
    ((other : ℕ) → other < length circuit → frontier_at state net ≤ frontier_at state other) → frontier_at state net ≡ least_frontier last state
least_frontier_at circuit last state sound net below least =
    let nets = net_count circuit last state sound in
    let process = get_below state.processes net (omega arith) in
    let is : frontier_at state net ≡ (process.0).known.frontier =
    view_at (λ (p : ProcessState). p.known.frontier) state.processes net process.0 process.1 in
    let high = frontier_within circuit last net state process.0 sound process.1 in
    let greatest = least_frontier_greatest circuit last (frontier_at state net) state sound (omega arith) least in
    let low = least_frontier-le circuit last state sound net below in
    omega arith

-- where the least frontier is the end, all are
pub complete_from_least : (circuit : Circuit) (last : ℕ) (state : State) → IsSound circuit last state → last ≤ least_frontier last state →
    IsComplete state
complete_from_least circuit last state sound h number default below =
    let process = get_or state.processes number default in
    let at : slice_get state.processes number ≡ Some (get_or state.processes number default) = slice_get-get_or state.processes number default below in
    let nets = net_count circuit last state sound in
    let low = least_frontier-le circuit last state sound number (omega arith) in
    let is : frontier_at state number ≡ (get_or state.processes number default).known.frontier =
    view_at (λ (p : ProcessState). p.known.frontier) state.processes number (get_or state.processes number default) at in
    let high = frontier_within circuit last number state (get_or state.processes number default) sound at in
    let end = sound.ends number (get_or state.processes number default) at in
    omega arith

-- enough rounds complete
pub rounds_complete : (circuit : Circuit) → IsCircuit circuit → (last : ℕ) (count : ℕ) (state : State) → IsSound circuit last state →
    last ≤ count * least_delay last circuit → IsComplete (rounds count state)
rounds_complete circuit ok last count state sound enough =
    complete_from_least circuit last (rounds count state) (rounds_sound circuit ok last count state sound)
    (reached last (least_frontier last state) (count * least_delay last circuit) (least_frontier last (rounds count state)) enough
    (rounds_raise circuit ok last count state sound))
  where
    reached : (last a n b : ℕ) → last ≤ n → min last (a + n) ≤ b → last ≤ b
    reached last a n b h k = omega arith

-- what a test of completeness tells
pub is_complete-true : (state : State) → is_complete state ≡ true → IsComplete state
is_complete-true state e number default below =
    eqb-true _ _ (AllPass-from_list_all (λ (p : ProcessState). p.known.frontier == p.end) state.processes e number default below)

pub is_complete-from : (state : State) → IsComplete state → is_complete state ≡ true
is_complete-from state complete =
    list_all-from_AllPass (λ (p : ProcessState). p.known.frontier == p.end) state.processes
    (λ number default below. eq-eqb _ _ (complete number default below))

-- then each net's frontier is the end
pub frontier_when_complete : (circuit : Circuit) (last : ℕ) (state : State) → IsSound circuit last state → IsComplete state →
    (net : ℕ) → net < length circuit → frontier_at state net ≡ last
frontier_when_complete circuit last state sound complete net below =
    let nets = net_count circuit last state sound in
    let process = get_below state.processes net (omega arith) in
    let same = get_or_from_slice_get state.processes net process.0 process.0 process.1 in
    view_at (λ (p : ProcessState). p.known.frontier) state.processes net process.0 process.1
    ∙ subst (λ (p : ProcessState). p.known.frontier ≡ p.end) same (complete net process.0 (omega arith))
    ∙ sound.ends net process.0 process.1

-- where all frontiers are the end, the least one is
pub least_when_complete : (circuit : Circuit) (last : ℕ) (state : State) → IsSound circuit last state → IsComplete state →
    least_frontier last state ≡ last
least_when_complete circuit last state sound complete =
    let low = least-bound last (map (λ (p : ProcessState). p.known.frontier) state.processes) in
    let high = least_frontier_greatest circuit last last state sound (omega arith) (λ number below.
    let here = frontier_when_complete circuit last state sound complete number below in omega arith) in
    omega arith

-- so the least frontier tells whether a state is complete
pub least_tells : (circuit : Circuit) (last : ℕ) (state : State) → IsSound circuit last state → (least_frontier last state == last) ≡ is_complete state
least_tells circuit last state sound = go (least_frontier last state == last) refl (is_complete state) refl
  where
    go : (low : Bool) → (least_frontier last state == last) ≡ low → (complete : Bool) → is_complete state ≡ complete → low ≡ complete
    go true e true h = refl
    go false e false h = refl
    go true e false h =
        let is : least_frontier last state ≡ last = eqb-true _ _ e in
        let complete = is_complete-from state (complete_from_least circuit last state sound (omega arith)) in
        cc
    go false e true h = absurd (eqb-false _ _ e (least_when_complete circuit last state sound (is_complete-true state h)))

-- ---- rounds one after another

-- the state after the fewest rounds that complete the one is that of the other
abbrev pub LeadsTo : State → State → Type 0
LeadsTo old now = (count : ℕ) → IsComplete (rounds count old) →
    (left : ℕ) × (completed_within count old ≡ completed_within left now) × IsComplete (rounds left now)

pub leads_on : (old now : State) → is_complete now ≡ false → LeadsTo old now → LeadsTo old (round_of now)
leads_on old now incomplete leads count complete = go (leads count complete)
  where
    go : (left : ℕ) × (completed_within count old ≡ completed_within left now) × IsComplete (rounds left now) →
        (left : ℕ) × (completed_within count old ≡ completed_within left (round_of now)) × IsComplete (rounds left (round_of now))
    go (zero, same, done) = let e = is_complete-from now done in cc
    go (suc left, same, done) = (
      left,
      same ∙ ap (λ b. cond b now (completed_within left (round_of now))) incomplete,
      done,
    )

pub led : (old now : State) → is_complete now ≡ true → LeadsTo old now → (count : ℕ) → IsComplete (rounds count old) →
    now ≡ completed_within count old
led old now complete leads count enough = go (leads count enough)
  where
    go : (left : ℕ) × (completed_within count old ≡ completed_within left now) × IsComplete (rounds left now) → now ≡ completed_within count old
    go (zero, same, done) = sym same
    go (suc left, same, done) = sym (same ∙ ap (λ b. cond b now (completed_within left (round_of now))) complete)
