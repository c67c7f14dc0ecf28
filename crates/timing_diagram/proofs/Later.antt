-- The changes of a waveform after a tick are those of what it shows.
use Rattle.std.proofs.Common.{◌≡◌, ◌∙◌, refl, ap, sym, subst, arith, ℕ, zero, suc, ◌+◌, ◌<◌, ◌≤◌, ◌⊎◌, inl, inr, List, [], ◌∷◌, max, All}
use Rattle.std.proofs.lemmas.Bool.{cases_lt, le-leb, lt-leb}
use Rattle.std.proofs.lemmas.List.Elements.{All-cons, All-nil}
use Rattle.logic3.specs.declared.value.Value.{Value}
use Rattle.logic3.specs.declared.change.Change.{Change}
use Rattle.logic3.specs.Wave.{Alternates, IsWave, Wave, changes_between, changes_within, value_after, value_at}
use Rattle.logic3.proofs.CallerLemmas.{changes_between-same, changes_between-value_after, changes_within-between, value_after-ahead}
use Rattle.timing_diagram.specs.Columns.{Ticks}
use Rattle.timing_diagram.specs.WavesPage.{later_changes}

both : (a b end : ℕ) → max a b ≤ end → (a ≤ end) × (b ≤ end)
both a b end past = (omega (arith, past), omega (arith, past))

-- a tick after some changes
abbrev after_all : List Change → ℕ
after_all [] = 0
after_all (change ∷ changes) = max (change.tick + 1) (after_all changes)

all_before : (changes : List Change) (end : ℕ) → after_all changes ≤ end → All (λ (change : Change). change.tick < end) changes
all_before [] end past = All-nil (λ (change : Change). change.tick < end)
all_before (change ∷ changes) end past =
    let parts = both (change.tick + 1) (after_all changes) end past in
    All-cons (λ (change : Change). change.tick < end) change changes (omega (arith, parts.0)) (all_before changes end parts.1)

-- changes from tick 1 on
from_one : (before : Value) (changes : List Change) (from to : ℕ) → 1 ≤ from → from ≤ to → Alternates before 1 changes →
    changes_within from to changes ≡ changes_between (value_after before changes) from to
from_one before changes from to some forward rise =
    let end = max to (after_all changes) in
    let start = value_after-ahead before before changes 1 0 rise (omega arith) in
    let all = changes_between-value_after before changes 1 end rise (all_before changes end (omega arith)) start in
    ap (changes_within from to) (sym all)
    ∙ changes_within-between (value_after before changes) 1 end from to some forward (omega arith)

-- one at tick 0 is none of those after it
past_the_first : (before : Value) (first : Change) (changes : List Change) (from to : ℕ) → 1 ≤ from → from ≤ to → first.tick ≡ 0 →
    Alternates first.value (first.tick + 1) changes →
    changes_within from to (first ∷ changes) ≡ changes_between (value_after before (first ∷ changes)) from to
past_the_first before first changes zero to some forward here rise = absurd (omega (arith, some))
past_the_first before first changes (suc from) to some forward here rise =
    let same : (tick : ℕ) → value_after first.value changes tick ≡ value_after before (first ∷ changes) tick =
    λ tick. rw (le-leb first.tick tick (omega (arith, here))) refl in
    let one : first.tick + 1 ≡ 1 = omega (arith, here) in
    let passed : changes_within (suc from) to (first ∷ changes) ≡ changes_within (suc from) to changes =
    rw (lt-leb (suc from) first.tick (omega (arith, here))) refl in
    passed
    ∙ from_one first.value changes (suc from) to some forward (subst (λ n. Alternates first.value n changes) one rise)
    ∙ changes_between-same (value_after first.value changes) (value_after before (first ∷ changes)) (suc from) to (same from)
    (λ tick a b. same tick)

within : (before : Value) (changes : List Change) (from to : ℕ) → 1 ≤ from → from ≤ to → Alternates before 0 changes →
    changes_within from to changes ≡ changes_between (value_after before changes) from to
within before [] from to some forward rise = from_one before [] from to some forward tt
within before (first ∷ changes) from to some forward rise = go (cases_lt 0 first.tick)
  where
    go : (0 < first.tick) ⊎ (first.tick ≤ 0) →
        changes_within from to (first ∷ changes) ≡ changes_between (value_after before (first ∷ changes)) from to
    go (inl later) = from_one before (first ∷ changes) from to some forward (omega (arith, later), rise.1, rise.2)
    go (inr here) = past_the_first before first changes from to some forward (omega (arith, here)) rise.2

pub within-later : (wave : Wave) (ticks : Ticks) (from to : ℕ) → from ≡ ticks.from → to ≡ ticks.to → from ≤ to → IsWave wave →
    changes_within (from + 1) (to + 1) wave.changes ≡ later_changes (value_at wave) ticks
within-later wave ticks from to a b forward rise =
    within wave.before wave.changes (from + 1) (to + 1) (omega arith) (omega (arith, forward)) rise
    ∙ ap (λ n. changes_between (value_at wave) (n + 1) (to + 1)) a
    ∙ ap (λ n. changes_between (value_at wave) (ticks.from + 1) (n + 1)) b
