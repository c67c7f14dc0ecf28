-- Waveforms cut at a tick.
use Rattle.std.proofs.Common.{◌≡◌, ℕ, zero, suc, ◌+◌, ◌-◌, ◌<◌, ◌≤◌, nat_lt, nat_le, max, Bool, true, false, List, [], ◌∷◌, ◌++◌, All, length, take, drop, refl, ap, sym, ◌∙◌, arith, append-nil, one-add, ◌⊎◌, inl, inr}
use Rattle.std.specs.List.{filter, prefix_len}
use Rattle.std.specs.List.Sorted.{IsPartitionPoint}
use Rattle.std.proofs.lemmas.Bool.{le-leb, lt-leb, lt-ltb, le-ltb, cases_lt}
use Rattle.std.proofs.lemmas.List.Elements.{All-head, All-tail, filter-append}
use Rattle.std.proofs.lemmas.List.Sums.{count_by-le-length, length-filter}
use Rattle.logic3.specs.declared.value.Value.{Value}
use Rattle.logic3.specs.declared.change.Change.{Change}
use Rattle.logic3.specs.Wave.{value_before, value_in_the_end, changes_between, changes_below, changes_from, changes_within, without_below, wave_of, Alternates}
use Rattle.logic3.proofs.Waves.{changes_between-split, all_from, last_value-wave_of}

-- ---- what passes a test, and what fails it

filter-all : {A : Type 0} (test : A → Bool) (xs : List A) → All (λ x. test x ≡ true) xs → filter test xs ≡ xs
filter-all test [] all = refl
filter-all test (x ∷ xs) all =
    rw (All-head (λ y. test y ≡ true) x xs all) (ap (λ ys. x ∷ ys) (filter-all test xs (All-tail (λ y. test y ≡ true) x xs all)))

filter-none : {A : Type 0} (test : A → Bool) (xs : List A) → All (λ x. test x ≡ false) xs → filter test xs ≡ []
filter-none test [] all = refl
filter-none test (x ∷ xs) all =
    rw (All-head (λ y. test y ≡ false) x xs all) (filter-none test xs (All-tail (λ y. test y ≡ false) x xs all))

-- ---- a waveform's changes, cut at a tick

-- the first changes, so many, are before the tick, and the others aren't
abbrev pub IsCut : ℕ → List Change → ℕ → Type 0
IsCut tick changes count =
    IsPartitionPoint (λ (change : Change). nat_lt change.tick tick ≡ true) (λ (change : Change). nat_lt change.tick tick ≡ false) changes count

pub cut_tail : (tick : ℕ) (first : Change) (changes : List Change) (count : ℕ) → IsCut tick (first ∷ changes) (suc count) → IsCut tick changes count
cut_tail tick first changes count at =
    ((λ k d low high. at.0 (suc k) d (omega arith) (omega arith)), λ k d low high. at.1 (suc k) d (omega arith) (omega arith))

-- how many changes come first that are below the tick
abbrev pub due_below : ℕ → List Change → ℕ
due_below tick changes = prefix_len (λ (change : Change). nat_lt change.tick tick) changes

-- where no change comes earlier than the tick, none is below it
none_early : (before : Value) (low tick : ℕ) (changes : List Change) → tick ≤ low → Alternates before low changes → changes_below tick changes ≡ []
none_early before low tick [] h rise = refl
none_early before low tick (first ∷ changes) h rise =
    rw (le-ltb first.tick tick (omega (arith, rise.0))) (none_early first.value (first.tick + 1) tick changes (omega (arith, rise.0)) rise.2)

all_stay : (before : Value) (low tick : ℕ) (changes : List Change) → tick ≤ low → Alternates before low changes →
    changes_from tick changes ≡ changes
all_stay before low tick [] h rise = refl
all_stay before low tick (first ∷ changes) h rise =
    rw (le-leb tick first.tick (omega (arith, rise.0)))
    (ap (λ cs. first ∷ cs) (all_stay first.value (first.tick + 1) tick changes (omega (arith, rise.0)) rise.2))

-- the first changes are those below the tick, and the others are from it on
pub first_below : (before : Value) (low tick : ℕ) (changes : List Change) → Alternates before low changes →
    take (due_below tick changes) changes ≡ changes_below tick changes
first_below before low tick [] rise = refl
first_below before low tick (first ∷ changes) rise =
    go (cases_lt first.tick tick) (first_below first.value (first.tick + 1) tick changes rise.2)
  where
    go : (first.tick < tick) ⊎ (tick ≤ first.tick) → take (due_below tick changes) changes ≡ changes_below tick changes →
        take (due_below tick (first ∷ changes)) (first ∷ changes) ≡ changes_below tick (first ∷ changes)
    go (inl early) rest = rw (lt-ltb first.tick tick early, one-add (due_below tick changes)) (ap (λ cs. first ∷ cs) rest)
    go (inr late) rest =
        rw (le-ltb first.tick tick late) (sym (none_early first.value (first.tick + 1) tick changes (omega (arith, late)) rise.2))

pub rest_behind : (before : Value) (low tick : ℕ) (changes : List Change) → Alternates before low changes →
    drop (due_below tick changes) changes ≡ changes_from tick changes
rest_behind before low tick [] rise = refl
rest_behind before low tick (first ∷ changes) rise =
    go (cases_lt first.tick tick) (rest_behind first.value (first.tick + 1) tick changes rise.2)
  where
    go : (first.tick < tick) ⊎ (tick ≤ first.tick) →
        drop (due_below tick changes) changes ≡ changes_from tick changes →
        drop (due_below tick (first ∷ changes)) (first ∷ changes) ≡ changes_from tick (first ∷ changes)
    go (inl early) rest = rw (lt-ltb first.tick tick early, lt-leb tick first.tick early, one-add (due_below tick changes)) rest
    go (inr late) rest =
        rw (le-ltb first.tick tick late, le-leb tick first.tick late)
        (ap (λ cs. first ∷ cs) (sym (all_stay first.value (first.tick + 1) tick changes (omega (arith, late)) rise.2)))

-- as many are dropped as are before the tick
pub rest_from : (before : Value) (low tick : ℕ) (changes : List Change) → Alternates before low changes →
    drop (length (changes_below tick changes)) changes ≡ changes_from tick changes
rest_from before low tick [] rise = refl
rest_from before low tick (first ∷ changes) rise =
    go (cases_lt first.tick tick) (rest_from first.value (first.tick + 1) tick changes rise.2)
  where
    go : (first.tick < tick) ⊎ (tick ≤ first.tick) → drop (length (changes_below tick changes)) changes ≡ changes_from tick changes →
        drop (length (changes_below tick (first ∷ changes))) (first ∷ changes) ≡ changes_from tick (first ∷ changes)
    go (inl early) rest = rw (lt-ltb first.tick tick early, lt-leb tick first.tick early) rest
    go (inr late) rest =
        rw (le-ltb first.tick tick late, le-leb tick first.tick late, none_early first.value (first.tick + 1) tick changes (omega (arith, late)) rise.2)
        (ap (λ cs. first ∷ cs) (sym (all_stay first.value (first.tick + 1) tick changes (omega (arith, late)) rise.2)))

-- those that pass a test are at most as many as all
pub length-filter_le : {A : Type 0} (test : A → Bool) (xs : List A) → length (filter test xs) ≤ length xs
length-filter_le test xs = rw (length-filter test xs) (count_by-le-length test xs)

-- changes that alternate from a tick on do so from an earlier one on
Alternates-earlier : (before : Value) (low lower : ℕ) (changes : List Change) → lower ≤ low → Alternates before low changes → Alternates before lower changes
Alternates-earlier before low lower [] h rise = tt
Alternates-earlier before low lower (first ∷ changes) h rise = (omega (arith, rise.0), rise.1, rise.2)

-- the changes behind a cut alternate
pub Alternates-cut : (before : Value) (low : ℕ) (changes : List Change) (count : ℕ) → Alternates before low changes → count ≤ length changes →
    Alternates (value_in_the_end before (take count changes)) low (drop count changes)
Alternates-cut before low [] count rise inside = let none : count ≡ 0 = omega arith in rw none tt
Alternates-cut before low (first ∷ changes) zero rise inside = rise
Alternates-cut before low (first ∷ changes) (suc count) rise inside =
    Alternates-earlier _ (first.tick + 1) low (drop count changes) (omega (arith, rise.0))
    (Alternates-cut first.value (first.tick + 1) changes count rise.2 (omega arith))

-- ---- a signal's changes, cut at a tick

-- the changes of a span are below what is not before its end, and not below what is not behind its beginning
all_below : (signal : ℕ → Value) (from to mid : ℕ) → to ≤ mid → changes_below mid (changes_between signal from to) ≡ changes_between signal from to
all_below signal from to mid h =
    filter-all (λ (change : Change). nat_lt change.tick mid) (changes_between signal from to)
    (all_from (λ (change : Change). nat_lt change.tick mid ≡ true) signal from (to - from) (λ tick a b differs. lt-ltb tick mid (omega arith)))

none_below : (signal : ℕ → Value) (from to mid : ℕ) → mid ≤ from → changes_below mid (changes_between signal from to) ≡ []
none_below signal from to mid h =
    filter-none (λ (change : Change). nat_lt change.tick mid) (changes_between signal from to)
    (all_from (λ (change : Change). nat_lt change.tick mid ≡ false) signal from (to - from) (λ tick a b differs. le-ltb tick mid (omega arith)))

all_late : (signal : ℕ → Value) (from to mid : ℕ) → mid ≤ from →
    changes_from mid (changes_between signal from to) ≡ changes_between signal from to
all_late signal from to mid h =
    filter-all (λ (change : Change). nat_le mid change.tick) (changes_between signal from to)
    (all_from (λ (change : Change). nat_le mid change.tick ≡ true) signal from (to - from) (λ tick a b differs. le-leb mid tick (omega arith)))

none_late : (signal : ℕ → Value) (from to mid : ℕ) → to ≤ mid →
    changes_from mid (changes_between signal from to) ≡ []
none_late signal from to mid h =
    filter-none (λ (change : Change). nat_le mid change.tick) (changes_between signal from to)
    (all_from (λ (change : Change). nat_le mid change.tick ≡ false) signal from (to - from) (λ tick a b differs. lt-leb mid tick (omega arith)))

-- a span that ends where it begins, or before, has no changes
no_span : (signal : ℕ → Value) (from to : ℕ) → to ≤ from → changes_between signal from to ≡ []
no_span signal from to h = let none : to - from ≡ 0 = omega arith in rw none refl

-- of the changes of a span those below a tick are the changes up to there
pub changes_below-between : (signal : ℕ → Value) (from to mid : ℕ) → mid ≤ to →
    changes_below mid (changes_between signal from to) ≡ changes_between signal from mid
changes_below-between signal from to mid h = go (cases_lt mid from)
  where
    go : (mid < from) ⊎ (from ≤ mid) → changes_below mid (changes_between signal from to) ≡ changes_between signal from mid
    go (inl early) = none_below signal from to mid (omega arith) ∙ sym (no_span signal from mid (omega arith))
    go (inr late) =
        ap (changes_below mid) (changes_between-split signal from mid to late h)
        ∙ filter-append (λ (change : Change). nat_lt change.tick mid) (changes_between signal from mid) (changes_between signal mid to)
        ∙ ap (λ cs. cs ++ changes_below mid (changes_between signal mid to)) (all_below signal from mid mid (omega arith))
        ∙ ap (λ cs. changes_between signal from mid ++ cs) (none_below signal mid to mid (omega arith))
        ∙ append-nil (changes_between signal from mid)

-- those from a tick on are the changes from there up to the end
pub changes_from-between : (signal : ℕ → Value) (from to mid : ℕ) → from ≤ mid → mid ≤ to →
    changes_from mid (changes_between signal from to) ≡ changes_between signal mid to
changes_from-between signal from to mid late h =
    ap (changes_from mid) (changes_between-split signal from mid to late h)
    ∙ filter-append (λ (change : Change). nat_le mid change.tick) (changes_between signal from mid) (changes_between signal mid to)
    ∙ ap (λ cs. cs ++ changes_from mid (changes_between signal mid to)) (none_late signal from mid mid (omega arith))
    ∙ all_late signal mid to mid (omega arith)

-- and those within a smaller span are the changes of that
pub changes_within-between : (signal : ℕ → Value) (low known from to : ℕ) → low ≤ from → from ≤ to → to ≤ known →
    changes_within from to (changes_between signal low known) ≡ changes_between signal from to
changes_within-between signal low known from to begin ordered end =
    ap (changes_below to) (changes_from-between signal low known from begin (omega arith)) ∙ changes_below-between signal from known to end

-- a signal's waveform without its changes before a tick is that from the tick on
pub without_below-wave_of : (signal : ℕ → Value) (from to mid : ℕ) → mid ≤ to →
    without_below mid (wave_of signal from to) ≡ wave_of signal (max from mid) to
without_below-wave_of signal from to mid h = go (cases_lt mid from)
  where
    go : (mid < from) ⊎ (from ≤ mid) → without_below mid (wave_of signal from to) ≡ wave_of signal (max from mid) to
    go (inl early) =
        let same : max from mid ≡ from = omega arith in
        let before = ap (value_in_the_end (value_before signal from)) (none_below signal from to mid (omega arith)) in
        let changes = all_late signal from to mid (omega arith) in
        (λ i. record { before = before i; changes = changes i }) ∙ ap (λ n. wave_of signal n to) (sym same)
    go (inr late) =
        let same : max from mid ≡ mid = omega arith in
        let before = ap (value_in_the_end (value_before signal from)) (changes_below-between signal from to mid h)
        ∙ last_value-wave_of signal from mid late in
        let changes = changes_from-between signal from to mid late h in
        (λ i. record { before = before i; changes = changes i }) ∙ ap (λ n. wave_of signal n to) (sym same)
