-- A process that has advanced can't be reckoned farther until it hears.
use Rattle.std.proofs.Common.{◌≡◌, ℕ, suc, ◌+◌, ◌<◌, ◌≤◌, List, [], ◌∷◌, Some, slice_get, refl, ap, sym, ◌∙◌, arith, ◌⊎◌, inl, inr}
use Rattle.std.proofs.lemmas.Bool.{cases_lt}
use Rattle.std.proofs.lemmas.Option.{get_or_from_slice_get, slice_get_within}
use Rattle.logic3.specs.declared.value.Value.{Value}
use Rattle.logic3.specs.Wave.{value_at, value_before}
use Rattle.logic3.proofs.CallerLemmas.{value_at-wave_of}
use Rattle.design.specs.Samples.{wire_at}
use Rattle.design.specs.Equations.{values_at, equation}
use Rattle.design.proofs.CallerLemmas.{same_later, same_values, source_tick-is}
use Rattle.timing_text.specs.Ranges.{HasClock}
use Rattle.gate_process.specs.Knowledge.{Knowledge, knowledge_of, forgetting, kept_since, seen, seen_pins, as_known}
use Rattle.gate_process.specs.Step.{ProcessState, seen_by, safe_of, signals_of, frontier_of, reach_of_part, next_frontier, oldest_asked, kept_from, kept, all_kept, extended, advanced}
use Rattle.gate_process.specs.Quiet.{IsQuiet}
use Rattle.gate_process.specs.Truth.{Meets, KnowsTruth}
use Rattle.gate_process.proofs.Delayed.{shows_later, shows_known, shows_unknown}
use Rattle.gate_process.proofs.Events.{advanced-safe, get_below}
use Rattle.gate_process.proofs.Kept.{all_kept-each}
use Rattle.gate_process.proofs.Reach.{next-asked, next-end, sure-end, reach-again}
use Rattle.gate_process.proofs.Reckoned.{advanced_true}
use Rattle.gate_process.proofs.Told.{kept_truth}

-- what pins show at a tick, where each that is kept shows what it did
same_kept : (process : ProcessState) (first : ℕ) (wires : List ℕ) (received : List Knowledge) (at : ℕ) →
    ((place wire : ℕ) (known : Knowledge) → slice_get wires place ≡ Some wire → slice_get received place ≡ Some known →
    value_at (as_known (seen wire (kept process (first + place) known))) at ≡ value_at (as_known (seen wire known)) at) →
    values_at at (signals_of (seen_pins wires (all_kept process first received))) ≡ values_at at (signals_of (seen_pins wires received))
same_kept process first [] received at h = refl
same_kept process first (wire ∷ wires) [] at h = refl
same_kept process first (wire ∷ wires) (known ∷ received) at h =
    let here : first + 0 ≡ first = omega arith in
    let head = ap (λ place. value_at (as_known (seen wire (kept process place known))) at) (sym here) ∙ h 0 wire known refl refl in
    let rest = same_kept process (first + 1) wires received at (λ place w k a b.
    let there : first + 1 + place ≡ first + suc place = omega arith in
    ap (λ p. value_at (as_known (seen w (kept process p k))) at) there ∙ h (suc place) w k a b) in
    λ i. head i ∷ rest i

module _ (process : ProcessState) (clock : HasClock process.net.part process.net.timing)
    (ahead : process.known.frontier ≤ next_frontier process)
    (heard : (place : ℕ) (received : Knowledge) → slice_get process.received place ≡ Some received → received ≡ kept process place received) where
  -- a pin shows what it did, at each tick that the net may still ask for
  kept_shows : (place wire at : ℕ) (known : Knowledge) → slice_get process.net.wires place ≡ Some wire →
      slice_get process.received place ≡ Some known → next_frontier process ≤ at + process.net.timing.delay →
      value_at (as_known (seen wire (kept (extended process) place known))) at ≡ value_at (as_known (seen wire known)) at
  kept_shows place wire at known a c asked = go (cases_lt at (known.frontier + wire))
    where
      from : ℕ
      from = kept_from (extended process) place known.frontier

      here : wire_at process.net place ≡ wire
      here = get_or_from_slice_get process.net.wires place wire 0 a

      begins : at < wire → kept_from (extended process) place known.frontier ≡ 0
      begins early = omega (arith, here, asked, early)

      began : at < wire → kept_from process place known.frontier ≡ 0
      began early = omega (arith, here, asked, early, ahead)

      go : (at < known.frontier + wire) ⊎ (known.frontier + wire ≤ at) →
          value_at (as_known (seen wire (kept (extended process) place known))) at ≡ value_at (as_known (seen wire known)) at
      go (inl below) =
          shows_known (seen wire (kept (extended process) place known)) at below
          ∙ shows_later wire (kept (extended process) place known).wave at (λ early. ap (value_before (value_at known.wave)) (begins early))
          ∙ same_later (value_at (kept (extended process) place known).wave) (value_at known.wave) at wire (λ t is.
          let there = source_tick-is wire at t is in
          value_at-wave_of (value_at known.wave) (kept_from (extended process) place known.frontier) known.frontier t
          (omega (arith, here, asked, there)) (omega (arith, there, below)))
          ∙ sym (shows_later wire known.wave at (λ early. ap (λ (k : Knowledge). k.wave.before) (heard place known c) ∙ ap (value_before (value_at known.wave)) (began early)))
          ∙ sym (shows_known (seen wire known) at below)
      go (inr past) =
          shows_unknown (seen wire (kept (extended process) place known)) at past ∙ sym (shows_unknown (seen wire known) at past)

  -- so its equation gives the same from there on
  advanced_shows : (tick : ℕ) → next_frontier process ≤ tick → tick < process.end →
      equation process.net (signals_of (seen_by (advanced process))) tick ≡ equation process.net (signals_of (seen_by process)) tick
  advanced_shows tick after before =
      same_values process.net.part process.net _ _ tick (λ at is.
      same_kept (extended process) 0 process.net.wires process.received at (λ place wire known a b.
      let same : 0 + place ≡ place = omega arith in
      ap (λ p. value_at (as_known (seen wire (kept (extended process) p known))) at) same
      ∙ kept_shows place wire at known a b (next-asked process tick at clock after before is)))

  pub advanced_stays : next_frontier (advanced process) ≡ next_frontier process
  advanced_stays =
      ap (λ sure. reach_of_part process.net.part (equation process.net (signals_of (seen_by (advanced process)))) process.end
      (next_frontier process) (frontier_of process.net process.end sure)) (advanced-safe process)
      ∙ reach-again (equation process.net (signals_of (seen_by process))) (equation process.net (signals_of (seen_by (advanced process))))
      process.net.part process.end process.known.frontier (frontier_of process.net process.end (safe_of process)) (sure-end process)
      (let to = next-end process in omega (arith, ahead, to))
      (λ before unknown. advanced_shows (next_frontier process) (omega arith) before ∙ unknown)

-- ---- a process that knows the truth

module _ (signals : ℕ → ℕ → Value) (number : ℕ) (process : ProcessState) (meets : Meets signals number process.net)
    (knows : KnowsTruth signals number process) where
  -- it keeps what it must
  kept_true : (place : ℕ) (received : Knowledge) → slice_get process.received place ≡ Some received → received ≡ kept process place received
  kept_true place received at =
      let within = slice_get_within process.received place received at in
      let pins = knows.pins in
      let source = get_below process.net.pins place (omega (arith, within, pins)) in
      let known = knows.heard place source.0 received source.1 at in
      known ∙ sym (kept_truth (signals source.0) process place (kept_from process place received.frontier) received known (omega arith))

  -- once it has advanced it can't be reckoned farther either
  pub advanced_stays_true : next_frontier (advanced process) ≡ next_frontier process
  advanced_stays_true = advanced_stays process meets.timed.timing.clock knows.ahead kept_true

  -- and an advance leaves it as it is where its frontier stays
  pub quiet_true : next_frontier process ≡ process.known.frontier → IsQuiet process
  quiet_true stays =
      let known = advanced_true signals number process meets knows ∙ ap (knowledge_of (signals number) process.floor) stays ∙ sym knows.known in
      let received = all_kept-each (extended process) process.received process.received refl (λ place pin at.
      at ∙ ap (λ k. Some k) (kept_true place pin at
      ∙ ap (λ n. forgetting (kept_since (oldest_asked process.net place n) pin.frontier) pin) (sym stays))) in
      λ i. record process { known = known i; received = sym received i }
