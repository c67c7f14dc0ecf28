-- The numbers of known ticks that a run by the kernel reports.
use Rattle.std.specs.Prelude.{◌≡◌, ℕ, ◌+◌, List, [], ◌∷◌, Result}
use Rattle.cmb_kernel.specs.State.{State, least_frontier}
use Rattle.cmb_kernel.specs.Step.{round_of}
use Rattle.prepared_runs.specs.Prepared.{RunView}
use Rattle.prepared_runs.specs.Reported.{IsProgressFrom}
use Rattle.kernel_runs.specs.Simulated.{known_after_events, state_after_events}
use Rattle.kernel_runs.specs.declared.pace.Pace.{Pace}
use Rattle.kernel_runs.specs.declared.pace.Pace.TheVariants.{Rounds}

-- numbers of ticks that every net knows: the first one in a state, and each further one after one more round
abbrev pub AreByRounds : ℕ → State → List ℕ → Type 0
AreByRounds end state [] = Unit {0}
AreByRounds end state (ticks ∷ more) = (ticks ≡ least_frontier end state) × AreByRounds end (round_of state) more

-- the progress of a run: it begins with the ticks known after its events
abbrev pub IsProgressOf : RunView → {A F : Type 0} → Result A F → List ℕ → Type 0
IsProgressOf run result = IsProgressFrom (known_after_events run) result run.horizon

-- the progress of a run by rounds: the ticks known after its events, and after each round that follows
abbrev pub IsProgressByRounds : RunView → {A F : Type 0} → Result A F → List ℕ → Type 0
IsProgressByRounds run result ticks = IsProgressOf run result ticks × AreByRounds (run.horizon + 1) (state_after_events run) ticks

-- the progress of a run that advances from a state at a pace: it begins with the ticks known there; by rounds, each further
-- number is that of the ticks known after one more
abbrev pub IsProgressAt : Pace → ℕ → State → {A F : Type 0} → Result A F → List ℕ → Type 0
IsProgressAt pace horizon state result ticks =
    IsProgressFrom (least_frontier (horizon + 1) state) result horizon ticks × (pace ≡ Rounds → AreByRounds (horizon + 1) state ticks)
