-- The numbers of known ticks that a run reports while it goes on.
use Rattle.std.proofs.Common.{◌≡◌, ℕ, ◌+◌, ◌<◌, ◌≤◌, List, [], ◌∷◌, ◌++◌, Result, Err, refl, ap, sym, subst, ◌∙◌, arith, append_assoc, append-nil}
use Rattle.design.specs.Circuit.{Circuit, IsCircuit}
use Rattle.cmb_kernel.specs.State.{KernelView, State, least_frontier}
use Rattle.cmb_kernel.specs.Step.{round_of}
use Rattle.cmb_kernel.specs.Sound.{IsSound}
use Rattle.cmb_kernel.specs.Drains.{apart_from_waves}
use Rattle.cmb_kernel.proofs.CallerLemmas.{alike_least, alike_round, round_sound}
use Rattle.prepared_runs.specs.Prepared.{RunView}
use Rattle.prepared_runs.specs.Reported.{BeginsWith, RisesTo}
use Rattle.prepared_runs.proofs.CallerLemmas.{RisesFrom, rises_last, rises_next, rises_nothing, rises_stopped}
use Rattle.kernel_runs.specs.Drained.{DrainsTo}
use Rattle.kernel_runs.specs.KnownTicks.{AreByRounds, IsProgressAt, IsProgressByRounds}
use Rattle.kernel_runs.specs.Simulated.{known_after_events, state_after_events}
use Rattle.kernel_runs.specs.declared.pace.Pace.{Pace}
use Rattle.kernel_runs.specs.declared.pace.Pace.TheVariants.{Rounds}
use Rattle.kernel_runs.proofs.Streamed.{least_within}

-- rounds alone lead from a start to a state that is alike but for what its nets show, and the numbers are those of the states
-- before it
pub record Rounded (circuit : Circuit) (end : ℕ) (start now : State) (ticks : List ℕ) : Type 0 where
  pub reached : State
  pub sound : IsSound circuit end reached
  pub alike : apart_from_waves now ≡ apart_from_waves reached
  pub numbers : (more : List ℕ) → AreByRounds end reached more → AreByRounds end start (ticks ++ more)

-- the numbers that a run reported on its way from a start
pub record SoFar (ByRounds : Type 0) (start now : KernelView) (ticks : List ℕ) : Type 0 where
  pub rises : RisesFrom (least_frontier start.end start.state) (least_frontier now.end now.state) ticks
  pub rounded : ByRounds → Rounded start.circuit start.end start.state now.state ticks

pub SoFar-nothing : (ByRounds : Type 0) (start : KernelView) → IsSound start.circuit start.end start.state → SoFar ByRounds start start []
SoFar-nothing ByRounds start sound = record {
  rises = rises_nothing (least_frontier start.end start.state);
  rounded = λ by. record { reached = start.state; sound = sound; alike = refl; numbers = λ more are. are };
}

-- where nothing is reported, a run stopped
pub stopped_before : (pace : Pace) (horizon : ℕ) (start : State) {A F : Type 0} (result : Result A F) (fault : F) → result ≡ Err fault →
    IsProgressAt pace horizon start result []
stopped_before pace horizon start result fault is =
    rw is (((rises_stopped (horizon + 2) (horizon + 2) (horizon + 2) [] (omega arith) (rises_nothing (horizon + 2))).0, tt), λ by. tt)

-- so did a run by rounds
pub by_rounds_stopped : (run : RunView) {A F : Type 0} (result : Result A F) (fault : F) → result ≡ Err fault → IsProgressByRounds run result []
by_rounds_stopped run result fault is =
    let stopped = stopped_before Rounds run.horizon (state_after_events run) result fault is in
    (stopped.0, stopped.1 refl)

-- what is reported by rounds from the state after its events is the progress of a run
pub by_rounds_after : (run : RunView) (state : State) (ticks : List ℕ) (Such : Type 0) → state ≡ state_after_events run →
    (Such × BeginsWith (least_frontier (run.horizon + 1) state) ticks) × (Rounds ≡ Rounds → AreByRounds (run.horizon + 1) state ticks) →
    (Such × BeginsWith (known_after_events run) ticks) × AreByRounds (run.horizon + 1) (state_after_events run) ticks
by_rounds_after run state ticks Such same holds =
    subst (λ s. (Such × BeginsWith (least_frontier (run.horizon + 1) s) ticks) × AreByRounds (run.horizon + 1) s ticks) same (holds.0, holds.1 refl)

module _ (pace : Pace) (horizon : ℕ) (start now : KernelView) (to : start.end ≡ horizon + 1) (same : now.end ≡ start.end) (ticks : List ℕ)
    (so_far : SoFar (pace ≡ Rounds) start now ticks) where
  rises_from : RisesFrom (least_frontier (horizon + 1) start.state) (least_frontier now.end now.state) ticks
  rises_from = subst (λ end. RisesFrom (least_frontier end start.state) (least_frontier now.end now.state) ticks) to so_far.rises

  within : least_frontier now.end now.state ≤ horizon + 1
  within = omega (arith, to, same, least_within now)

  by_rounds : pace ≡ Rounds → AreByRounds (horizon + 1) start.state ticks
  by_rounds by =
      subst (λ end. AreByRounds end start.state ticks) to
      (subst (AreByRounds start.end start.state) (append-nil ticks) ((so_far.rounded by).numbers [] tt))

  -- it stopped before the next number
  pub stopped_here : {A F : Type 0} (result : Result A F) (fault : F) → result ≡ Err fault → IsProgressAt pace horizon start.state result ticks
  stopped_here result fault is =
      let part = rises_stopped (least_frontier (horizon + 1) start.state) (least_frontier now.end now.state) (horizon + 2) ticks (omega (arith, within)) rises_from in
      rw is (part, by_rounds)

  module _ (known : ℕ) (is_least : known ≡ least_frontier now.end now.state) where
    rises_known : RisesFrom (least_frontier (horizon + 1) start.state) known ticks
    rises_known = subst (λ next. RisesFrom (least_frontier (horizon + 1) start.state) next ticks) (sym is_least) rises_from

    next_by_rounds : (by : pace ≡ Rounds) → known ≡ least_frontier start.end (so_far.rounded by).reached
    next_by_rounds by =
        let rounded = so_far.rounded by in
        is_least ∙ ap (λ end. least_frontier end now.state) same ∙ alike_least now.state rounded.reached rounded.alike start.end

    known_by_rounds : pace ≡ Rounds → AreByRounds (horizon + 1) start.state (ticks ++ known ∷ [])
    known_by_rounds by =
        subst (λ end. AreByRounds end start.state (ticks ++ known ∷ [])) to ((so_far.rounded by).numbers (known ∷ []) (next_by_rounds by, tt))

    -- it stopped after it
    pub stopped_next : {A F : Type 0} (result : Result A F) (fault : F) → result ≡ Err fault →
        IsProgressAt pace horizon start.state result (ticks ++ known ∷ [])
    stopped_next result fault is =
        let first = least_frontier (horizon + 1) start.state in
        let next = rises_next first known (horizon + 2) ticks (omega (arith, is_least, within)) rises_known in
        let part = rises_stopped first (horizon + 2) (horizon + 2) (ticks ++ known ∷ []) (omega arith) next in
        rw is (part, known_by_rounds)

    -- it ended with it
    pub ended : known ≡ horizon + 1 → (RisesTo (horizon + 1) (ticks ++ known ∷ []) × BeginsWith (least_frontier (horizon + 1) start.state) (ticks ++ known ∷ []))
        × (pace ≡ Rounds → AreByRounds (horizon + 1) start.state (ticks ++ known ∷ []))
    ended all = (rises_last (least_frontier (horizon + 1) start.state) (horizon + 1) known ticks all rises_known, known_by_rounds)

    -- it goes on
    pub SoFar-more : IsCircuit start.circuit → (mid next : KernelView) → DrainsTo now mid → IsSound start.circuit start.end mid.state →
        (pace ≡ Rounds → next.state ≡ round_of mid.state) → known < least_frontier next.end next.state →
        SoFar (pace ≡ Rounds) start next (ticks ++ known ∷ [])
    SoFar-more ok mid next drains sound round risen = record {
      rises = rises_next (least_frontier start.end start.state) known (least_frontier next.end next.state) ticks risen
          (subst (λ number. RisesFrom (least_frontier start.end start.state) number ticks) (sym is_least) so_far.rises);
      rounded = λ by.
          let rounded = so_far.rounded by in
          record {
            reached = round_of rounded.reached;
            sound = round_sound start.circuit ok start.end rounded.reached rounded.sound;
            alike = ap apart_from_waves (round by)
                ∙ alike_round start.circuit ok start.end mid.state rounded.reached sound rounded.sound (drains.alike ∙ rounded.alike);
            numbers = λ more are.
                subst (AreByRounds start.end start.state) (sym (append_assoc ticks (known ∷ []) more)) (rounded.numbers (known ∷ more) (next_by_rounds by, are));
          };
    }
