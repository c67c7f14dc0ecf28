-- What an advance leaves as it is.
use Rattle.std.proofs.Common.{◌≡◌, ◌≢◌, ℕ, zero, suc, Bool, true, false, cond, List, [], ◌∷◌, Some, slice_get, slice_set, refl, ap, sym, subst, ◌∙◌, arith, inl, inr, ◌⊎◌, append-nil}
use Rattle.std.proofs.lemmas.Bool.{eq-eqb}
use Rattle.std.proofs.lemmas.List.{length-set}
use Rattle.logic3.specs.Wave.{changes_between, joined}
use Rattle.gate_process.specs.Knowledge.{news_of}
use Rattle.gate_process.specs.Step.{ProcessState, ProcessView, next_frontier, reckoned, advanced, news, drained}
use Rattle.gate_process.specs.Truth.{IsProcess}
use Rattle.gate_process.specs.Quiet.{IsQuiet, KnowsTo, AreQuiet, AreHeard}
use Rattle.gate_process.proofs.Advanced.{advanced_of}
use Rattle.gate_process.proofs.Events.{advanced_is_process}
use Rattle.gate_process.proofs.Stays.{advanced_stays}
use Rattle.gate_process.proofs.Walks.{none_between}

-- ---- one process

-- a process has nothing to tell where its frontier stays
pub no_news : (process : ProcessState) → next_frontier process ≡ process.known.frontier → news process ≡ []
no_news process stays =
    ap (λ same. cond same [] (news_of (changes_between (reckoned process) process.known.frontier (next_frontier process)) (next_frontier process)))
    (eq-eqb (next_frontier process) process.known.frontier stays)

quiet_frontier : (process : ProcessState) → IsQuiet process → next_frontier process ≡ process.known.frontier
quiet_frontier process quiet = ap (λ (p : ProcessState). p.known.frontier) quiet

pub quiet_news : (process : ProcessState) → IsQuiet process → news process ≡ []
quiet_news process quiet = no_news process (quiet_frontier process quiet)

-- it keeps of its pins what it must, so it is quiet where its frontier stays
pub quiet_of : (process : ProcessState) → IsProcess process → next_frontier process ≡ process.known.frontier → IsQuiet process
quiet_of process ok stays =
    let frontier = process.known.frontier in
    let none = none_between (reckoned process) frontier in
    let wave : process.known.wave ≡ joined process.known.wave (changes_between (reckoned process) frontier frontier) =
    (λ i. record process.known.wave { changes = sym (append-nil process.known.wave.changes) i }) ∙ ap (joined process.known.wave) (sym none) in
    sym (advanced_of process ok process.known.wave frontier process.received (sym stays) wave refl
    (λ place known e. e ∙ ap (λ k. Some k) (ok.heard place known e)))

-- as it is once it has advanced
pub quiet_advanced : (process : ProcessState) → IsProcess process → IsQuiet (advanced process)
quiet_advanced process ok = quiet_of (advanced process) (advanced_is_process process ok) (advanced_stays process ok.timed.timing.clock ok.ahead ok.heard)

-- what is taken out of it plays no part
pub quiet_drained : (process : ProcessState) (bound : ℕ) → IsProcess (drained bound process) → IsQuiet process → IsQuiet (drained bound process)
quiet_drained process bound ok quiet = quiet_of (drained bound process) ok (quiet_frontier process quiet)

-- ---- a list of them

-- what stands at a place after one was set
pub get_of_set : {A : Type 0} (xs : List A) (place : ℕ) (x : A) (at : ℕ) (y : A) → slice_get (slice_set xs place x) at ≡ Some y →
    ((at ≡ place) × (x ≡ y)) ⊎ ((at ≢ place) × (slice_get xs at ≡ Some y))
get_of_set [] place x at y e = cc
get_of_set (first ∷ xs) zero x zero y e = inl (refl, cc)
get_of_set (first ∷ xs) zero x (suc at) y e = inr ((λ same. omega arith), e)
get_of_set (first ∷ xs) (suc place) x zero y e = inr ((λ same. omega arith), e)
get_of_set (first ∷ xs) (suc place) x (suc at) y e = go (get_of_set xs place x at y e)
  where
    go : ((at ≡ place) × (x ≡ y)) ⊎ ((at ≢ place) × (slice_get xs at ≡ Some y)) →
        ((suc at ≡ suc place) × (x ≡ y)) ⊎ ((suc at ≢ suc place) × (slice_get xs at ≡ Some y))
    go (inl (here, is)) = inl (ap suc here, is)
    go (inr (other, is)) = inr ((λ same. other (omega (arith, same))), is)

module _ (processes : List ProcessView) (quiet : List Bool) (are : AreQuiet processes quiet) (net : ℕ) (process : ProcessView) where
  -- a process changed, and its flag stayed
  pub process_set : (slice_get quiet net ≡ Some true → process.failed ≡ false → IsQuiet process.state) →
      AreQuiet (slice_set processes net process) quiet
  process_set still = record {
    flags = are.flags ∙ sym (length-set processes net process);
    stays = λ at found is flag runs. go at found (get_of_set processes net process at found is) flag runs;
  }
    where
      go : (at : ℕ) (found : ProcessView) → ((at ≡ net) × (process ≡ found)) ⊎ ((at ≢ net) × (slice_get processes at ≡ Some found)) →
          slice_get quiet at ≡ Some true → found.failed ≡ false → IsQuiet found.state
      go at found (inl (here, is)) flag runs =
          subst (λ (p : ProcessView). IsQuiet p.state) is
          (still (subst (λ n. slice_get quiet n ≡ Some true) here flag) (ap (λ (p : ProcessView). p.failed) is ∙ runs))
      go at found (inr (other, is)) flag runs = are.stays at found is flag runs

  -- a process changed, and its flag was set
  pub flag_set : (flag : Bool) → (flag ≡ true → process.failed ≡ false → IsQuiet process.state) →
      AreQuiet (slice_set processes net process) (slice_set quiet net flag)
  flag_set flag now = record {
    flags = length-set quiet net flag ∙ are.flags ∙ sym (length-set processes net process);
    stays = λ at found is raised runs.
        go at found (get_of_set processes net process at found is) (get_of_set quiet net flag at true raised) runs;
  }
    where
      go : (at : ℕ) (found : ProcessView) → ((at ≡ net) × (process ≡ found)) ⊎ ((at ≢ net) × (slice_get processes at ≡ Some found)) →
          ((at ≡ net) × (flag ≡ true)) ⊎ ((at ≢ net) × (slice_get quiet at ≡ Some true)) → found.failed ≡ false → IsQuiet found.state
      go at found (inl (here, is)) (inl (same, raised)) runs =
          subst (λ (p : ProcessView). IsQuiet p.state) is (now raised (ap (λ (p : ProcessView). p.failed) is ∙ runs))
      go at found (inl (here, is)) (inr (other, raised)) runs = absurd (other here)
      go at found (inr (other, is)) (inl (here, raised)) runs = absurd (other here)
      go at found (inr (other, is)) (inr (apart, raised)) runs = are.stays at found is raised runs

-- ---- what their pins know

module _ (processes : List ProcessView) (quiet : List Bool) (heard : List ℕ) (are : AreHeard processes quiet heard) (net : ℕ) (process : ProcessView) where
  -- a process changed, and its flag and its tick stayed
  pub process_knows : ((tick : ℕ) → slice_get quiet net ≡ Some true → slice_get heard net ≡ Some tick → process.failed ≡ false → KnowsTo tick process.state) →
      AreHeard (slice_set processes net process) quiet heard
  process_knows still = record {
    ticks = are.ticks ∙ sym (length-set processes net process);
    knows = λ at found tick is flag to runs. go at found tick (get_of_set processes net process at found is) flag to runs;
  }
    where
      go : (at : ℕ) (found : ProcessView) (tick : ℕ) → ((at ≡ net) × (process ≡ found)) ⊎ ((at ≢ net) × (slice_get processes at ≡ Some found)) →
          slice_get quiet at ≡ Some true → slice_get heard at ≡ Some tick → found.failed ≡ false → KnowsTo tick found.state
      go at found tick (inl (here, is)) flag to runs =
          subst (λ (p : ProcessView). KnowsTo tick p.state) is
          (still tick (subst (λ n. slice_get quiet n ≡ Some true) here flag) (subst (λ n. slice_get heard n ≡ Some tick) here to)
          (ap (λ (p : ProcessView). p.failed) is ∙ runs))
      go at found tick (inr (other, is)) flag to runs = are.knows at found tick is flag to runs

  -- a process changed, and its flag was lowered
  pub none_known : AreHeard (slice_set processes net process) (slice_set quiet net false) heard
  none_known = record {
    ticks = are.ticks ∙ sym (length-set processes net process);
    knows = λ at found tick is raised to runs.
        go at found tick (get_of_set processes net process at found is) (get_of_set quiet net false at true raised) to runs;
  }
    where
      go : (at : ℕ) (found : ProcessView) (tick : ℕ) → ((at ≡ net) × (process ≡ found)) ⊎ ((at ≢ net) × (slice_get processes at ≡ Some found)) →
          ((at ≡ net) × (false ≡ true)) ⊎ ((at ≢ net) × (slice_get quiet at ≡ Some true)) → slice_get heard at ≡ Some tick →
          found.failed ≡ false → KnowsTo tick found.state
      go at found tick is (inl (here, raised)) to runs = cc
      go at found tick (inl (here, is)) (inr (other, raised)) to runs = absurd (other here)
      go at found tick (inr (other, is)) (inr (apart, raised)) to runs = are.knows at found tick is raised to runs

  -- a process changed, and its flag and its tick were set
  pub known_set : (flag : Bool) (to : ℕ) → (process.failed ≡ false → KnowsTo to process.state) →
      AreHeard (slice_set processes net process) (slice_set quiet net flag) (slice_set heard net to)
  known_set flag to now = record {
    ticks = length-set heard net to ∙ are.ticks ∙ sym (length-set processes net process);
    knows = λ at found tick is raised at_tick runs.
        go at found tick (get_of_set processes net process at found is) (get_of_set quiet net flag at true raised)
        (get_of_set heard net to at tick at_tick) runs;
  }
    where
      go : (at : ℕ) (found : ProcessView) (tick : ℕ) → ((at ≡ net) × (process ≡ found)) ⊎ ((at ≢ net) × (slice_get processes at ≡ Some found)) →
          ((at ≡ net) × (flag ≡ true)) ⊎ ((at ≢ net) × (slice_get quiet at ≡ Some true)) →
          ((at ≡ net) × (to ≡ tick)) ⊎ ((at ≢ net) × (slice_get heard at ≡ Some tick)) → found.failed ≡ false → KnowsTo tick found.state
      go at found tick (inl (here, is)) raised (inl (same, at_tick)) runs =
          subst (λ n. KnowsTo n found.state) at_tick
          (subst (λ (p : ProcessView). KnowsTo to p.state) is (now (ap (λ (p : ProcessView). p.failed) is ∙ runs)))
      go at found tick (inl (here, is)) raised (inr (other, at_tick)) runs = absurd (other here)
      go at found tick (inr (other, is)) raised (inl (here, at_tick)) runs = absurd (other here)
      go at found tick (inr (other, is)) (inl (here, raised)) (inr (apart, at_tick)) runs = absurd (other here)
      go at found tick (inr (other, is)) (inr (there, raised)) (inr (apart, at_tick)) runs = are.knows at found tick is raised at_tick runs
