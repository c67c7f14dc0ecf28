-- Where two signals differ.
use Rattle.std.specs.Prelude.{◌≡◌, ◌≢◌, ℕ, ◌<◌, not, Bool, find, Option, option_map}
use Rattle.logic3.specs.declared.value.Value.{Value}
use Rattle.logic3.specs.Value.{is_same}
use Rattle.wave_diff.specs.declared.difference.Difference.{Difference}
use Rattle.wave_diff.specs.Compared.{ComparedTicks, IsCompared, compared_ticks}

-- two signals differ at a tick
abbrev pub differ_at : (ℕ → Value) → (ℕ → Value) → ℕ → Bool
differ_at first second tick = not (is_same (first tick) (second tick))

-- what the two show at a tick
abbrev pub difference_at : (ℕ → Value) → (ℕ → Value) → ℕ → Difference
difference_at first second tick = record { tick = tick; first = first tick; second = second tick }

-- the first of the compared ticks at which they differ, and what they show there
abbrev pub first_difference : (ℕ → Value) → (ℕ → Value) → ComparedTicks → Option Difference
first_difference first second compared =
    option_map (difference_at first second) (find (differ_at first second) (compared_ticks compared))

-- two signals show the same at every compared tick
abbrev pub SameWhereCompared : (ℕ → Value) → (ℕ → Value) → ComparedTicks → Type 0
SameWhereCompared first second compared = (tick : ℕ) → IsCompared compared tick → first tick ≡ second tick

-- what two signals show at a compared tick differs, and they show the same at each one before it
pub record IsFirstDifference (first second : ℕ → Value) (ticks : ComparedTicks) (found : Difference) : Type 0 where
  pub compared : IsCompared ticks found.tick
  pub of_first : found.first ≡ first found.tick
  pub of_second : found.second ≡ second found.tick
  pub apart : found.first ≢ found.second
  pub same_before : (tick : ℕ) → IsCompared ticks tick → tick < found.tick → first tick ≡ second tick
