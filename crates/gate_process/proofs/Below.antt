-- The changes of a waveform below a tick come first.
use Rattle.std.proofs.Common.{◌≡◌, ℕ, zero, suc, ◌+◌, ◌<◌, ◌≤◌, List, [], ◌∷◌, length, take, drop, refl, ap, sym, arith, one-add, ◌⊎◌, inl, inr}
use Rattle.std.proofs.lemmas.Bool.{le-leb, lt-leb, lt-ltb, le-ltb, cases_lt}
use Rattle.logic3.specs.declared.value.Value.{Value}
use Rattle.logic3.specs.declared.change.Change.{Change}
use Rattle.logic3.specs.Wave.{value_in_the_end, changes_below, changes_from, Alternates}
use Rattle.logic3.proofs.CallerLemmas.{due_below}

-- where no change comes earlier than the tick, none is below it
none_early : (before : Value) (low tick : ℕ) (changes : List Change) → tick ≤ low → Alternates before low changes → changes_below tick changes ≡ []
none_early before low tick [] h rise = refl
none_early before low tick (first ∷ changes) h rise =
    rw (le-ltb first.tick tick (omega (arith, rise.0))) (none_early first.value (first.tick + 1) tick changes (omega (arith, rise.0)) rise.2)

all_stay : (before : Value) (low tick : ℕ) (changes : List Change) → tick ≤ low → Alternates before low changes →
    changes_from tick changes ≡ changes
all_stay before low tick [] h rise = refl
all_stay before low tick (first ∷ changes) h rise =
    rw (le-leb tick first.tick (omega (arith, rise.0)))
    (ap (λ cs. first ∷ cs) (all_stay first.value (first.tick + 1) tick changes (omega (arith, rise.0)) rise.2))

-- the first changes are those below the tick, and the others are from it on
pub first_below : (before : Value) (low tick : ℕ) (changes : List Change) → Alternates before low changes →
    take (due_below tick changes) changes ≡ changes_below tick changes
first_below before low tick [] rise = refl
first_below before low tick (first ∷ changes) rise =
    go (cases_lt first.tick tick) (first_below first.value (first.tick + 1) tick changes rise.2)
  where
    go : (first.tick < tick) ⊎ (tick ≤ first.tick) → take (due_below tick changes) changes ≡ changes_below tick changes →
        take (due_below tick (first ∷ changes)) (first ∷ changes) ≡ changes_below tick (first ∷ changes)
    go (inl early) rest = rw (lt-ltb first.tick tick early, one-add (due_below tick changes)) (ap (λ cs. first ∷ cs) rest)
    go (inr late) rest =
        rw (le-ltb first.tick tick late) (sym (none_early first.value (first.tick + 1) tick changes (omega (arith, late)) rise.2))

pub rest_behind : (before : Value) (low tick : ℕ) (changes : List Change) → Alternates before low changes →
    drop (due_below tick changes) changes ≡ changes_from tick changes
rest_behind before low tick [] rise = refl
rest_behind before low tick (first ∷ changes) rise =
    go (cases_lt first.tick tick) (rest_behind first.value (first.tick + 1) tick changes rise.2)
  where
    go : (first.tick < tick) ⊎ (tick ≤ first.tick) →
        drop (due_below tick changes) changes ≡ changes_from tick changes →
        drop (due_below tick (first ∷ changes)) (first ∷ changes) ≡ changes_from tick (first ∷ changes)
    go (inl early) rest = rw (lt-ltb first.tick tick early, lt-leb tick first.tick early, one-add (due_below tick changes)) rest
    go (inr late) rest =
        rw (le-ltb first.tick tick late, le-leb tick first.tick late)
        (ap (λ cs. first ∷ cs) (sym (all_stay first.value (first.tick + 1) tick changes (omega (arith, late)) rise.2)))

-- changes that alternate from a tick on do so from an earlier one on
Alternates-earlier : (before : Value) (low lower : ℕ) (changes : List Change) → lower ≤ low → Alternates before low changes → Alternates before lower changes
Alternates-earlier before low lower [] h rise = tt
Alternates-earlier before low lower (first ∷ changes) h rise = (omega (arith, rise.0), rise.1, rise.2)

-- the changes behind a cut alternate
pub Alternates-cut : (before : Value) (low : ℕ) (changes : List Change) (count : ℕ) → Alternates before low changes → count ≤ length changes →
    Alternates (value_in_the_end before (take count changes)) low (drop count changes)
Alternates-cut before low [] count rise inside = let none : count ≡ 0 = omega arith in rw none tt
Alternates-cut before low (first ∷ changes) zero rise inside = rise
Alternates-cut before low (first ∷ changes) (suc count) rise inside =
    Alternates-earlier _ (first.tick + 1) low (drop count changes) (omega (arith, rise.0))
    (Alternates-cut first.value (first.tick + 1) changes count rise.2 (omega arith))
