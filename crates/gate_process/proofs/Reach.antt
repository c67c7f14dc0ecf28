-- How far what is known of its pins leads a net.
use Rattle.std.proofs.Common.{◌≡◌, ◌≢◌, ℕ, zero, suc, ◌+◌, ◌-◌, ◌<◌, ◌≤◌, min, max, Bool, true, false, not, cond, None, Some, refl, ap, sym, subst, ◌∙◌, arith, ltb-false, ◌⊎◌, inl, inr}
use Rattle.std.proofs.lemmas.Bool.{cases_lt, lt-ltb, le-ltb}
use Rattle.std.proofs.lemmas.Option.{none-some, same_Some}
use Rattle.std.specs.Prelude.{nat_lt}
use Rattle.logic3.specs.declared.value.Value.{Value}
use Rattle.logic3.specs.declared.value.Value.TheVariants.{Unknown}
use Rattle.logic3.specs.declared.gates.GateKind.{GateKind}
use Rattle.logic3.specs.Value.{is_same}
use Rattle.logic3.proofs.CallerLemmas.{is_same-true}
use Rattle.netlist.specs.declared.part.Part.{Part}
use Rattle.netlist.specs.declared.part.Part.TheVariants.{Input, Gate, Flop}
use Rattle.timing_text.specs.declared.timing.Timing.{Timing}
use Rattle.timing_text.specs.Ranges.{HasClock}
use Rattle.design.specs.Samples.{asked_of_part, asked_tick}
use Rattle.design.specs.Equations.{equation}
use Rattle.gate_process.specs.Reading.{most_of_part}
use Rattle.gate_process.specs.Step.{ProcessState, own_delay, frontier_of, first_unknown, reach_of_part, safe_of, signals_of, seen_by, next_frontier}
use Rattle.gate_process.proofs.Frontiers.{frontier-end, frontier-farther, asked-kept}

-- ---- the first tick of X

is_unknown : (value : Value) → is_same value Unknown ≡ false → value ≢ Unknown
is_unknown value other same = let here : is_same Unknown Unknown ≡ false = ap (λ v. is_same v Unknown) (sym same) ∙ other in cc

module _ (signal : ℕ → Value) where
  first_unknown-from : (from ticks : ℕ) → from ≤ first_unknown signal from ticks
  first_unknown-from from zero = omega arith
  first_unknown-from from (suc ticks) = go (is_same (signal from) Unknown) (first_unknown-from (from + 1) ticks)
    where
      go : (here : Bool) → from + 1 ≤ first_unknown signal (from + 1) ticks → from ≤ cond here from (first_unknown signal (from + 1) ticks)
      go true later = omega arith
      go false later = omega (arith, later)

  first_unknown-to : (from ticks : ℕ) → first_unknown signal from ticks ≤ from + ticks
  first_unknown-to from zero = omega arith
  first_unknown-to from (suc ticks) = go (is_same (signal from) Unknown) (first_unknown-to (from + 1) ticks)
    where
      go : (here : Bool) → first_unknown signal (from + 1) ticks ≤ from + 1 + ticks →
          cond here from (first_unknown signal (from + 1) ticks) ≤ from + suc ticks
      go true later = omega arith
      go false later = omega (arith, later)

  -- before it the signal is known
  first_unknown-known : (from ticks at : ℕ) → from ≤ at → at < first_unknown signal from ticks → signal at ≢ Unknown
  first_unknown-known from zero at after before = absurd (omega (arith, after, before))
  first_unknown-known from (suc ticks) at after before =
      go (is_same (signal from) Unknown) refl (cases_lt from at) (first_unknown-known (from + 1) ticks at) before
    where
      go : (here : Bool) → is_same (signal from) Unknown ≡ here → (from < at) ⊎ (at ≤ from) →
          (from + 1 ≤ at → at < first_unknown signal (from + 1) ticks → signal at ≢ Unknown) →
          at < cond here from (first_unknown signal (from + 1) ticks) → signal at ≢ Unknown
      go true is place later early = absurd (omega (arith, after, early))
      go false is (inl late) later early = later (omega (arith, late)) early
      go false is (inr first) later early =
          let same : from ≡ at = omega (arith, after, first) in
          subst (λ t. signal t ≢ Unknown) same (is_unknown (signal from) is)

  -- and there it is X
  first_unknown-there : (from ticks : ℕ) → first_unknown signal from ticks < from + ticks → signal (first_unknown signal from ticks) ≡ Unknown
  first_unknown-there from zero before = absurd (omega (arith, before))
  first_unknown-there from (suc ticks) before =
      go (is_same (signal from) Unknown) refl (first_unknown-there (from + 1) ticks) before
    where
      go : (here : Bool) → is_same (signal from) Unknown ≡ here →
          (first_unknown signal (from + 1) ticks < from + 1 + ticks → signal (first_unknown signal (from + 1) ticks) ≡ Unknown) →
          cond here from (first_unknown signal (from + 1) ticks) < from + suc ticks →
          signal (cond here from (first_unknown signal (from + 1) ticks)) ≡ Unknown
      go true is later early = is_same-true (signal from) Unknown is
      go false is later early = later (omega (arith, early))

  -- there is no other such tick
  pub first_unknown-is : (from ticks at : ℕ) → from ≤ at → at ≤ from + ticks → ((t : ℕ) → from ≤ t → t < at → signal t ≢ Unknown) →
      (at < from + ticks → signal at ≡ Unknown) → first_unknown signal from ticks ≡ at
  first_unknown-is from ticks at after within known there =
      go (cases_lt (first_unknown signal from ticks) at) (cases_lt at (first_unknown signal from ticks))
    where
      first : ℕ
      first = first_unknown signal from ticks

      go : (first_unknown signal from ticks < at) ⊎ (at ≤ first_unknown signal from ticks) →
          (at < first_unknown signal from ticks) ⊎ (first_unknown signal from ticks ≤ at) → first_unknown signal from ticks ≡ at
      go (inl early) other =
          absurd (known (first_unknown signal from ticks) (first_unknown-from from ticks) early
          (first_unknown-there from ticks (omega (arith, early, within))))
      go (inr late) (inl before) =
          absurd (first_unknown-known from ticks at after before
          (there (let to = first_unknown-to from ticks in omega (arith, to, before))))
      go (inr late) (inr early) = omega (arith, late, early)

  -- ---- how far a net of a part is reckoned

  module _ (end from sure : ℕ) (within : sure ≤ end) where
    pub reach-end : (part : Part) → reach_of_part part signal end from sure ≤ end
    reach-end Input = within
    reach-end (Gate kind) = omega arith
    reach-end Flop = within

    -- never less than where all pins are known
    pub reach-sure : (part : Part) → sure ≤ reach_of_part part signal end from sure
    reach-sure Input = omega arith
    reach-sure (Gate kind) = let first = first_unknown-from (max from sure) (end - max from sure) in omega (arith, within, first)
    reach-sure Flop = omega arith

    -- nor does a gate fall back
    pub reach-back : (kind : GateKind) → from ≤ end → from ≤ reach_of_part (Gate kind) signal end from sure
    reach-back kind low = let first = first_unknown-from (max from sure) (end - max from sure) in omega (arith, low, first)

    -- as far as a walk that stops at the first X leads
    pub reach-walked : (part : Part) → from ≤ reach_of_part part signal end from sure →
        first_unknown signal (max from sure) (most_of_part part end sure - max from sure) ≡ reach_of_part part signal end from sure
    reach-walked Input low = (let none : sure - max from sure ≡ 0 = omega (arith, low) in rw none (omega (arith, low)))
    reach-walked (Gate kind) low =
        let to = first_unknown-to (max from sure) (end - max from sure) in omega (arith, low, within, to)
    reach-walked Flop low = (let none : sure - max from sure ≡ 0 = omega (arith, low) in rw none (omega (arith, low)))

    -- past where all pins are known the net shows no X before it
    pub reach-settled : (part : Part) (tick : ℕ) → from ≤ tick → sure ≤ tick → tick < reach_of_part part signal end from sure → signal tick ≢ Unknown
    reach-settled Input tick after late before = absurd (omega (arith, late, before))
    reach-settled (Gate kind) tick after late before =
        first_unknown-known (max from sure) (end - max from sure) tick (omega (arith, after, late)) (omega (arith, before))
    reach-settled Flop tick after late before = absurd (omega (arith, late, before))

    -- and a gate shows one there
    pub reach-waits : (kind : GateKind) → from ≤ end → reach_of_part (Gate kind) signal end from sure < end →
        signal (reach_of_part (Gate kind) signal end from sure) ≡ Unknown
    reach-waits kind low before =
        let first : first_unknown signal (max from sure) (end - max from sure) < max from sure + (end - max from sure) =
        omega (arith, low, within, before) in
        let same : first_unknown signal (max from sure) (end - max from sure) ≡ reach_of_part (Gate kind) signal end from sure =
        omega (arith, before) in
        subst (λ t. signal t ≡ Unknown) same (first_unknown-there (max from sure) (end - max from sure) first)

    -- it stays where it can be reckoned no farther, or shows an X
    pub reach-stays : (part : Part) → from ≤ reach_of_part part signal end from sure →
        (most_of_part part end sure ≤ from) ⊎ ((sure ≤ from) × (signal from ≡ Unknown)) → from ≡ reach_of_part part signal end from sure
    reach-stays Input low (inl done) = omega (arith, low, done)
    reach-stays Input low (inr (late, unknown)) = omega (arith, low, late)
    reach-stays (Gate kind) low (inl done) = omega (arith, low, done)
    reach-stays (Gate kind) low (inr (late, unknown)) =
        let first = first_unknown-is (max from sure) (end - max from sure) from (omega (arith, late)) (omega (arith, late, low))
        (λ t after before. absurd (omega (arith, after, before))) (λ before. unknown) in
        omega (arith, first, low)
    reach-stays Flop low (inl done) = omega (arith, low, done)
    reach-stays Flop low (inr (late, unknown)) = omega (arith, low, late)

    -- else it goes on
    pub reach-moves : (part : Part) → from < most_of_part part end sure → (from < sure) ⊎ (signal from ≢ Unknown) →
        from < reach_of_part part signal end from sure
    reach-moves Input low way = low
    reach-moves (Gate kind) low (inl early) = let more = reach-sure (Gate kind) in omega (arith, early, more)
    reach-moves (Gate kind) low (inr known) = go (cases_lt from (reach_of_part (Gate kind) signal end from sure))
      where
        go : (from < reach_of_part (Gate kind) signal end from sure) ⊎ (reach_of_part (Gate kind) signal end from sure ≤ from) →
            from < reach_of_part (Gate kind) signal end from sure
        go (inl far) = far
        go (inr near) =
            let back = reach-back kind (omega (arith, low)) in
            let here : reach_of_part (Gate kind) signal end from sure ≡ from = omega (arith, near, back) in
            absurd (known (subst (λ t. signal t ≡ Unknown) here (reach-waits kind (omega (arith, low)) (omega (arith, near, low)))))
    reach-moves Flop low way = low

    -- so whether it stays tells whether it goes on
    pub reach-goes_on : (part : Part) → from ≤ reach_of_part part signal end from sure → (stays : Bool) →
        (stays ≡ true → (most_of_part part end sure ≤ from) ⊎ ((sure ≤ from) × (signal from ≡ Unknown))) →
        (stays ≡ false → (from < most_of_part part end sure) × ((from < sure) ⊎ (signal from ≢ Unknown))) →
        not stays ≡ nat_lt from (reach_of_part part signal end from sure)
    reach-goes_on part low true halts moves =
        let same = reach-stays part low (halts refl) in
        sym (le-ltb from (reach_of_part part signal end from sure) (omega (arith, same)))
    reach-goes_on part low false halts moves =
        let way = moves refl in
        sym (lt-ltb from (reach_of_part part signal end from sure) (reach-moves part way.0 way.1))

-- where it shows X it stays
pub reach-again : (one other : ℕ → Value) (part : Part) (end from sure : ℕ) → sure ≤ end → from ≤ end →
    (reach_of_part part one end from sure < end → one (reach_of_part part one end from sure) ≡ Unknown →
    other (reach_of_part part one end from sure) ≡ Unknown) →
    reach_of_part part other end (reach_of_part part one end from sure) sure ≡ reach_of_part part one end from sure
reach-again one other Input end from sure within low same = refl
reach-again one other (Gate kind) end from sure within low same =
    let far : sure ≤ reach_of_part (Gate kind) one end from sure = reach-sure one end from sure within (Gate kind) in
    let last : reach_of_part (Gate kind) one end from sure ≤ end = reach-end one end from sure within (Gate kind) in
    stays (reach_of_part (Gate kind) one end from sure) far last
    (λ before. same before (reach-waits one end from sure within kind low before))
  where
    stays : (reached : ℕ) → sure ≤ reached → reached ≤ end → (reached < end → other reached ≡ Unknown) →
        reach_of_part (Gate kind) other end reached sure ≡ reached
    stays reached far last waits =
        let first = first_unknown-is other (max reached sure) (end - max reached sure) reached (omega (arith, far)) (omega (arith, far, last))
        (λ t after before. absurd (omega (arith, after, before))) (λ before. waits (omega (arith, before, far, last))) in
        omega (arith, first, last)
reach-again one other Flop end from sure within low same = refl

-- a frontier that it reached it reaches also where more pins are known
pub reach-ahead : (one other : ℕ → Value) (part : Part) (end old from low high : ℕ) → low ≤ high → high ≤ end →
    from ≤ reach_of_part part one end old low → from ≤ reach_of_part part other end from high
reach-ahead one other Input end old from low high more within reached = omega (arith, more, reached)
reach-ahead one other (Gate kind) end old from low high more within reached =
    reach-back other end from high within kind (omega (arith, reached))
reach-ahead one other Flop end old from low high more within reached = omega (arith, more, reached)

-- it grows with what is known
pub reach-mono : (one other : ℕ → Value) (part : Part) (end from farther low high : ℕ) → from ≤ farther → farther ≤ end → low ≤ high → high ≤ end →
    ((tick : ℕ) → farther ≤ tick → tick < end → one tick ≢ Unknown → other tick ≢ Unknown) →
    reach_of_part part one end from low ≤ reach_of_part part other end farther high
reach-mono one other Input end from farther low high ahead last more within known = more
reach-mono one other (Gate kind) end from farther low high ahead last more within known =
    go (cases_lt (reach_of_part (Gate kind) other end farther high) (reach_of_part (Gate kind) one end from low))
  where
    less : low ≤ end
    less = omega (arith, more, within)

    go : (reach_of_part (Gate kind) other end farther high < reach_of_part (Gate kind) one end from low)
        ⊎ (reach_of_part (Gate kind) one end from low ≤ reach_of_part (Gate kind) other end farther high) →
        reach_of_part (Gate kind) one end from low ≤ reach_of_part (Gate kind) other end farther high
    go (inl before) =
        let here = reach_of_part (Gate kind) other end farther high in
        let back = reach-back other end farther high within kind last in
        let sure = reach-sure other end farther high within (Gate kind) in
        let to = reach-end one end from low less (Gate kind) in
        absurd (known (reach_of_part (Gate kind) other end farther high) back (omega (arith, before, to))
        (reach-settled one end from low less (Gate kind) (reach_of_part (Gate kind) other end farther high)
        (omega (arith, ahead, back)) (omega (arith, more, sure)) before)
        (reach-waits other end farther high within kind last (omega (arith, before, to))))
    go (inr done) = done
reach-mono one other Flop end from farther low high ahead last more within known = more

-- ---- how far a process is reckoned

pub sure-end : (process : ProcessState) → frontier_of process.net process.end (safe_of process) ≤ process.end
sure-end process = frontier-end process.net process.end (safe_of process)

pub next-end : (process : ProcessState) → next_frontier process ≤ process.end
next-end process =
    reach-end (equation process.net (signals_of (seen_by process))) process.end process.known.frontier
    (frontier_of process.net process.end (safe_of process)) (sure-end process) process.net.part

-- at least as far as all its pins are known
pub next-sure : (process : ProcessState) → frontier_of process.net process.end (safe_of process) ≤ next_frontier process
next-sure process =
    reach-sure (equation process.net (signals_of (seen_by process))) process.end process.known.frontier
    (frontier_of process.net process.end (safe_of process)) (sure-end process) process.net.part

-- where all pins are known up to a tick, a net is reckoned at least its delay farther
pub next-farther : (process : ProcessState) (low delay : ℕ) → HasClock process.net.part process.net.timing → low ≤ safe_of process →
    delay ≤ own_delay process.net.part process.end process.net.timing.delay → min process.end (low + delay) ≤ next_frontier process
next-farther process low delay clock known own =
    let sure = frontier-farther process.net process.end (safe_of process) low delay clock known own in
    let more = next-sure process in
    omega (arith, sure, more)

-- an input and a flip-flop just so far
pub next-others : (process : ProcessState) → (process.net.part ≡ Input) ⊎ (process.net.part ≡ Flop) →
    next_frontier process ≡ frontier_of process.net process.end (safe_of process)
next-others process other = go process.net.part other
  where
    go : (part : Part) → (part ≡ Input) ⊎ (part ≡ Flop) →
        reach_of_part part (equation process.net (signals_of (seen_by process))) process.end process.known.frontier
        (frontier_of process.net process.end (safe_of process)) ≡ frontier_of process.net process.end (safe_of process)
    go Input is = refl
    go (Gate kind) (inl is) = cc
    go (Gate kind) (inr is) = cc
    go Flop is = refl

-- past that no X is passed
pub next-settled : (process : ProcessState) (tick : ℕ) → process.known.frontier ≤ tick →
    frontier_of process.net process.end (safe_of process) ≤ tick → tick < next_frontier process →
    equation process.net (signals_of (seen_by process)) tick ≢ Unknown
next-settled process tick after late before =
    reach-settled (equation process.net (signals_of (seen_by process))) process.end process.known.frontier
    (frontier_of process.net process.end (safe_of process)) (sure-end process) process.net.part tick after late before

-- and a gate stops at one
pub next-waits : (process : ProcessState) (kind : GateKind) → process.net.part ≡ Gate kind → process.known.frontier ≤ next_frontier process →
    next_frontier process < process.end → equation process.net (signals_of (seen_by process)) (next_frontier process) ≡ Unknown
next-waits process kind gate ahead before = go process.net.part gate before
  where
    go : (part : Part) → part ≡ Gate kind →
        reach_of_part part (equation process.net (signals_of (seen_by process))) process.end process.known.frontier
        (frontier_of process.net process.end (safe_of process)) < process.end →
        equation process.net (signals_of (seen_by process))
        (reach_of_part part (equation process.net (signals_of (seen_by process))) process.end process.known.frontier
        (frontier_of process.net process.end (safe_of process))) ≡ Unknown
    go Input is early = cc
    go (Gate other) is early =
        reach-waits (equation process.net (signals_of (seen_by process))) process.end process.known.frontier
        (frontier_of process.net process.end (safe_of process)) (sure-end process) other
        (let to = next-end process in omega (arith, ahead, to)) early
    go Flop is early = cc

gate_asks : (timing : Timing) (kind : GateKind) (tick asked : ℕ) → asked_of_part (Gate kind) timing tick ≡ Some asked → asked + timing.delay ≡ tick
gate_asks timing kind tick asked is = go (nat_lt tick timing.delay) refl is
  where
    go : (early : Bool) → nat_lt tick timing.delay ≡ early → cond early None (Some (tick - timing.delay)) ≡ Some asked → asked + timing.delay ≡ tick
    go true e found = absurd (none-some asked found)
    go false e found =
        let late = ltb-false tick timing.delay e in
        let same = same_Some (tick - timing.delay) asked found in
        omega (arith, late, same)

-- from there on no value asks for a tick of the pins that is more than the delay before
pub next-asked : (process : ProcessState) (tick asked : ℕ) → HasClock process.net.part process.net.timing → next_frontier process ≤ tick →
    tick < process.end → asked_tick process.net tick ≡ Some asked → next_frontier process ≤ asked + process.net.timing.delay
next-asked process tick asked clock after before is = go process.net.part refl is after
  where
    signal : ℕ → Value
    signal = equation process.net (signals_of (seen_by process))

    simple : frontier_of process.net process.end (safe_of process) ≤ tick →
        frontier_of process.net process.end (safe_of process) ≤ asked + process.net.timing.delay
    simple late = asked-kept process.net process.end (safe_of process) tick asked clock late before is

    go : (part : Part) → process.net.part ≡ part → asked_of_part part process.net.timing tick ≡ Some asked →
        reach_of_part part (equation process.net (signals_of (seen_by process))) process.end process.known.frontier
        (frontier_of process.net process.end (safe_of process)) ≤ tick →
        reach_of_part part (equation process.net (signals_of (seen_by process))) process.end process.known.frontier
        (frontier_of process.net process.end (safe_of process)) ≤ asked + process.net.timing.delay
    go Input part asks late = absurd (none-some asked asks)
    go (Gate kind) part asks late = let there = gate_asks process.net.timing kind tick asked asks in omega (arith, late, there)
    go Flop part asks late = simple late
