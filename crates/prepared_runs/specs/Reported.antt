-- The reports of a run's progress.
use Rattle.std.specs.Prelude.{◌≡◌, ℕ, ◌+◌, ◌<◌, ◌≤◌, List, [], ◌∷◌, ◌++◌, All, Result, Ok, Err}
use Rattle.std.specs.List.{range_with_len}
use Rattle.logic3.specs.Rising.{Rises}

-- the reports of such numbers led from one state to the other
abbrev pub Reported : {S : Type 0} → (S → List ℕ → S → Type 0) → (List ℕ → Type 0) → S → S → Type 0
Reported reports Such old new = (ticks : List ℕ) × reports old ticks new × Such ticks

-- numbers that rise, and are less than a bound
pub record RisesBelow (bound : ℕ) (ticks : List ℕ) : Type 0 where
  pub rises : Rises ticks
  pub below : All (λ number. number < bound) ticks

-- numbers that rise, and end with this one
abbrev pub RisesTo : ℕ → List ℕ → Type 0
RisesTo last ticks = (earlier : List ℕ) × RisesBelow last earlier × (ticks ≡ earlier ++ last ∷ [])

-- each number from 0 on, up to this one
abbrev pub CountsTo : ℕ → List ℕ → Type 0
CountsTo last ticks = ticks ≡ range_with_len 0 (last + 1)

-- each number from 0 on, for at most a number of them
abbrev pub CountsBelow : ℕ → List ℕ → Type 0
CountsBelow bound ticks = (count : ℕ) × (count ≤ bound) × (ticks ≡ range_with_len 0 count)

-- the numbers of ticks that a run up to a horizon reports: they rise, and end with all ticks if the run succeeds
abbrev pub IsProgress : {A F : Type 0} → Result A F → ℕ → List ℕ → Type 0
IsProgress (Ok value) horizon = RisesTo (horizon + 1)
IsProgress (Err fault) horizon = RisesBelow (horizon + 2)

-- numbers of which the first, if there is one, is this one
abbrev pub BeginsWith : ℕ → List ℕ → Type 0
BeginsWith first [] = Unit {0}
BeginsWith first (ticks ∷ more) = ticks ≡ first

-- those of a run of which a number of ticks are known before it advances: they begin with that number
abbrev pub IsProgressFrom : ℕ → {A F : Type 0} → Result A F → ℕ → List ℕ → Type 0
IsProgressFrom first result horizon ticks = IsProgress result horizon ticks × BeginsWith first ticks

-- those of a run tick by tick: each number from 0 on, up to all ticks if the run succeeds
abbrev pub IsTickByTick : {A F : Type 0} → Result A F → ℕ → List ℕ → Type 0
IsTickByTick (Ok value) horizon = CountsTo (horizon + 1)
IsTickByTick (Err fault) horizon = CountsBelow (horizon + 2)
