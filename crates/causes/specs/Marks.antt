-- Marks for the nets and values that occur in causes.
use Rattle.std.specs.Prelude.{◌≡◌, ℕ, ◌+◌, ◌*◌, ◌<◌, ◌≤◌, All, List, length, Option, None, slice_index_or}
use Rattle.logic3.specs.declared.value.Value.{Value}
use Rattle.logic3.specs.declared.value.Value.TheVariants.{Zero, One, Unknown}
use Rattle.logic3.specs.Wave.{Wave}
use Rattle.design.specs.Circuit.{Circuit}
use Rattle.causes.specs.declared.cause.Cause.{Cause}
use Rattle.causes.specs.Causes.{taken_again, ShowUpTo}

-- a number for each value
abbrev pub value_number : Value → ℕ
value_number Zero = 0
value_number One = 1
value_number Unknown = 2

-- the place of the mark of a net with a value
abbrev pub mark_place : ℕ → Value → ℕ
mark_place net value = 3 * net + value_number value

-- the mark of a net with a value is the tick at which it took the value, by the last cause that has the two
abbrev pub AreMarked : ℕ → List Cause → List (Option ℕ) → Type 0
AreMarked nets causes marks =
    (net : ℕ) (value : Value) → net < nets →
    slice_index_or marks (mark_place net value) None ≡ taken_again None causes net value

-- nets that took their values by a tick
abbrev pub TookBy : ℕ → List Cause → Type 0
TookBy top causes = All (λ (cause : Cause). cause.since ≤ top) causes

-- this holds of any causes with these marks, over waveforms that show the run up to the ticks at which the causes took their values
abbrev pub ForMarked : Circuit → List (Option ℕ) → List Wave → (List Cause → Type 0) → Type 0
ForMarked circuit marks waves P =
    (causes : List Cause) (top : ℕ) → AreMarked (length circuit) causes marks → ShowUpTo circuit top waves → TookBy top causes → P causes
