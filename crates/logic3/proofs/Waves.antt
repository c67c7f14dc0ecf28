-- A waveform of a signal shows the signal.
use Rattle.std.proofs.Common.{◌≡◌, ◌≢◌, ◌↔◌, ℕ, zero, suc, ◌+◌, ◌-◌, ◌<◌, ◌≤◌, nat_le, Bool, true, false, cond, List, [], ◌∷◌, ◌++◌, All, Contains, flat_map, refl, ap, sym, ◌∙◌, arith, suc-add, zero-add, add-zero, add-one, append-nil, ◌⊎◌, inl, inr}
use Rattle.std.specs.List.{range_with_len}
use Rattle.std.proofs.lemmas.Grind.{flat_map-append}
use Rattle.std.proofs.lemmas.List.Elements.{All-nil, All-cons, All-append, All-contains, Contains-append_left, Contains-append_right}
use Rattle.std.proofs.lemmas.List.Kept.{AllPairs-cons}
use Rattle.std.proofs.lemmas.Bool.{le-leb, cases_lt}
use Rattle.std.proofs.lemmas.Bool.Decides.{nat_tests}
use Rattle.logic3.specs.declared.value.Value.{Value}
use Rattle.logic3.specs.declared.value.Value.TheVariants.{Unknown}
use Rattle.logic3.specs.declared.change.Change.{Change}
use Rattle.logic3.specs.Value.{is_same, is_same_equiv}
use Rattle.logic3.proofs.Equal.{is_same-true}
use Rattle.logic3.specs.Rising.{TicksRise}
use Rattle.logic3.specs.Wave.{value_after, value_at, value_before, change_at, changes_between, wave_of, value_in_the_end, last_value, joined, Alternates, IsWave}

pub value_after-append : (v : Value) (xs ys : List Change) (tick : ℕ) →
    value_after v (xs ++ ys) tick ≡ value_after (value_after v xs tick) ys tick
value_after-append v [] ys tick = refl
value_after-append v (x ∷ xs) ys tick = value_after-append (cond (nat_le x.tick tick) x.value v) xs ys tick

-- a change that is due brings the signal's value
pub value_after-due : (signal : ℕ → Value) (at tick : ℕ) → at ≤ tick →
    value_after (value_before signal at) (change_at signal at) tick ≡ signal at
value_after-due signal at tick due = go (is_same (signal at) (value_before signal at)) refl
  where
    go : (same : Bool) → is_same (signal at) (value_before signal at) ≡ same →
        value_after (value_before signal at) (cond same [] (record { tick = at; value = signal at } ∷ [])) tick ≡ signal at
    go true e = sym (is_same-true _ _ e)
    go false e = rw (le-leb at tick due) refl

-- a change that is not due brings nothing
pub value_after-early : (v : Value) (signal : ℕ → Value) (at tick : ℕ) → tick < at → value_after v (change_at signal at) tick ≡ v
value_after-early v signal at tick early = go (is_same (signal at) (value_before signal at))
  where
    go : (same : Bool) → value_after v (cond same [] (record { tick = at; value = signal at } ∷ [])) tick ≡ v
    go true = refl
    go false = grind (arith, nat_tests)

-- changes at later ticks bring nothing
pub value_after-later : (v : Value) (signal : ℕ → Value) (from ticks tick : ℕ) → tick < from →
    value_after v (flat_map (change_at signal) (range_with_len from ticks)) tick ≡ v
value_after-later v signal from zero tick early = refl
value_after-later v signal from (suc ticks) tick early =
    value_after-append v (change_at signal from) _ tick
    ∙ rw (value_after-early v signal from tick early) (value_after-later v signal (from + 1) ticks tick (omega arith))

value_after-some : (signal : ℕ → Value) (from ticks tick : ℕ) → from ≤ tick → tick < from + ticks →
    value_after (value_before signal from) (flat_map (change_at signal) (range_with_len from ticks)) tick ≡ signal tick
value_after-some signal from zero tick a b = absurd (omega arith)
value_after-some signal from (suc ticks) tick a b =
    value_after-append (value_before signal from) (change_at signal from) _ tick
    ∙ rw (value_after-due signal from tick a)
    (go (cases_lt from tick) (λ late. value_after-some signal (from + 1) ticks tick (omega arith) (omega arith)))
  where
    go : (from < tick) ⊎ (tick ≤ from) →
        (from < tick → value_after (value_before signal (from + 1)) (flat_map (change_at signal) (range_with_len (from + 1) ticks)) tick ≡ signal tick) →
        value_after (signal from) (flat_map (change_at signal) (range_with_len (from + 1) ticks)) tick ≡ signal tick
    go (inl late) after =
        let step : value_before signal (from + 1) ≡ signal from = rw add-one refl in rw step at (after late)
    go (inr here) after = value_after-later (signal from) signal (from + 1) ticks tick (omega arith) ∙ ap signal (omega arith)

pub value_at-wave_of : (signal : ℕ → Value) (from to tick : ℕ) → from ≤ tick → tick < to →
    value_at (wave_of signal from to) tick ≡ signal tick
value_at-wave_of signal from to tick a b = value_after-some signal from (to - from) tick a (omega arith)

-- ---- waveforms end to end

range-split : (from ticks more : ℕ) → range_with_len from (ticks + more) ≡ range_with_len from ticks ++ range_with_len (from + ticks) more
range-split from zero more = rw (zero-add, add-zero) refl
range-split from (suc ticks) more =
    rw (suc-add) (ap (λ xs. from ∷ xs) (range-split (from + 1) ticks more
    ∙ ap (λ n. range_with_len (from + 1) ticks ++ range_with_len n more) (omega arith)))

-- the changes of two spans in a row are those of the whole
pub changes_between-split : (signal : ℕ → Value) (from mid to : ℕ) → from ≤ mid → mid ≤ to →
    changes_between signal from to ≡ changes_between signal from mid ++ changes_between signal mid to
changes_between-split signal from mid to a b =
    let whole : to - from ≡ (mid - from) + (to - mid) = omega arith in
    let second : from + (mid - from) ≡ mid = omega arith in
    rw (whole, range-split from (mid - from) (to - mid), second) (flat_map-append (change_at signal) _ _)

same_from : (f g : ℕ → Value) (from ticks : ℕ) → value_before f from ≡ value_before g from →
    ((tick : ℕ) → from ≤ tick → tick < from + ticks → f tick ≡ g tick) →
    flat_map (change_at f) (range_with_len from ticks) ≡ flat_map (change_at g) (range_with_len from ticks)
same_from f g from zero before same = refl
same_from f g from (suc ticks) before same =
    let here : f from ≡ g from = same from (omega arith) (omega arith) in
    let change : change_at f from ≡ change_at g from = rw (here, before) refl in
    let next : value_before f (from + 1) ≡ value_before g (from + 1) = rw add-one here in
    let rest = same_from f g (from + 1) ticks next (λ tick a b. same tick (omega arith) (omega arith)) in cc

-- signals that agree at these ticks and the one before have the same changes there
pub changes_between-same : (f g : ℕ → Value) (from to : ℕ) → value_before f from ≡ value_before g from →
    ((tick : ℕ) → from ≤ tick → tick < to → f tick ≡ g tick) → changes_between f from to ≡ changes_between g from to
changes_between-same f g from to before same =
    same_from f g from (to - from) before (λ tick a b. same tick a (omega arith))

alternates_from : (signal : ℕ → Value) (from ticks low : ℕ) → low ≤ from →
    Alternates (value_before signal from) low (flat_map (change_at signal) (range_with_len from ticks))
alternates_from signal from zero low h = tt
alternates_from signal from (suc ticks) low h =
    go (is_same (signal from) (value_before signal from)) refl (λ l a. alternates_from signal (from + 1) ticks l a)
  where
    rest : List Change
    rest = flat_map (change_at signal) (range_with_len (from + 1) ticks)

    go : (same : Bool) → is_same (signal from) (value_before signal from) ≡ same →
        ((l : ℕ) → l ≤ from + 1 → Alternates (value_before signal (from + 1)) l rest) →
        Alternates (value_before signal from) low (cond same [] (record { tick = from; value = signal from } ∷ []) ++ rest)
    go true e after =
        let next : value_before signal (from + 1) ≡ value_before signal from = rw add-one (is_same-true _ _ e) in
        rw next at (after low (omega arith))
    go false e after =
        let next : value_before signal (from + 1) ≡ signal from = rw add-one refl in
        (h, (λ d. let r = is_same_equiv.refl (value_before signal from) in cc), rw next at (after (from + 1) (omega arith)))

-- a waveform of a signal is a waveform
pub IsWave-wave_of : (signal : ℕ → Value) (from to : ℕ) → IsWave (wave_of signal from to)
IsWave-wave_of signal from to = alternates_from signal from (to - from) 0 (omega arith)

-- a waveform of a signal also shows the signal one tick before its span
pub value_at-wave_of_back : (signal : ℕ → Value) (from to tick : ℕ) → from ≤ tick + 1 → tick < to →
    value_at (wave_of signal from to) tick ≡ signal tick
value_at-wave_of_back signal from to tick a b = go (cases_lt tick from)
  where
    go : (tick < from) ⊎ (from ≤ tick) → value_at (wave_of signal from to) tick ≡ signal tick
    go (inl early) =
        let at : from ≡ suc tick = omega arith in
        value_after-later (value_before signal from) signal from (to - from) tick early ∙ ap (value_before signal) at
    go (inr late) = value_at-wave_of signal from to tick late b

-- two waveforms from tick 0 are equal just where their signals agree
pub wave_of_iff : (f g : ℕ → Value) (to : ℕ) →
    (wave_of f 0 to ≡ wave_of g 0 to) ↔ ((tick : ℕ) → tick < to → f tick ≡ g tick)
wave_of_iff f g to = (
  (λ e tick b. sym (value_at-wave_of f 0 to tick (omega arith) b) ∙ ap (λ w. value_at w tick) e ∙ value_at-wave_of g 0 to tick (omega arith) b),
  (λ same. ap (λ xs. record { before = Unknown; changes = xs }) (changes_between-same f g 0 to refl (λ tick a b. same tick b))),
)

-- the waveforms of two spans in a row make that of the whole
pub joined-wave_of : (signal : ℕ → Value) (from mid to : ℕ) → from ≤ mid → mid ≤ to →
    joined (wave_of signal from mid) (wave_of signal mid to).changes ≡ wave_of signal from to
joined-wave_of signal from mid to a b =
    ap (λ xs. record { before = value_before signal from; changes = xs }) (sym (changes_between-split signal from mid to a b))

-- ---- the changes one by one

-- what holds wherever a signal changes in a span holds of each change there
pub all_from : (P : Change → Type 0) (signal : ℕ → Value) (from ticks : ℕ) →
    ((tick : ℕ) → from ≤ tick → tick < from + ticks → value_before signal tick ≢ signal tick → P (record { tick = tick; value = signal tick })) →
    All P (flat_map (change_at signal) (range_with_len from ticks))
all_from P signal from zero each = All-nil P
all_from P signal from (suc ticks) each =
    All-append P (change_at signal from) _ (go (is_same (signal from) (value_before signal from)) refl)
    (all_from P signal (from + 1) ticks (λ tick a b d. each tick (omega arith) (omega arith) d))
  where
    go : (same : Bool) → is_same (signal from) (value_before signal from) ≡ same →
        All P (cond same [] (record { tick = from; value = signal from } ∷ []))
    go true e = All-nil P
    go false e =
        let differs : value_before signal from ≢ signal from = λ d. let r = is_same_equiv.refl (signal from) in cc in
        All-cons P _ [] (each from (omega arith) (omega arith) differs) (All-nil P)

-- where a signal isn't what it was there is a change
pub change_at-some : (signal : ℕ → Value) (tick : ℕ) → value_before signal tick ≢ signal tick →
    change_at signal tick ≡ record { tick = tick; value = signal tick } ∷ []
change_at-some signal tick differs = go (is_same (signal tick) (value_before signal tick)) refl
  where
    go : (same : Bool) → is_same (signal tick) (value_before signal tick) ≡ same →
        cond {A = List Change} same [] (record { tick = tick; value = signal tick } ∷ []) ≡ record { tick = tick; value = signal tick } ∷ []
    go true e = absurd (differs (sym (is_same-true _ _ e)))
    go false e = refl

-- each of those changes is in the list
contains_from : (signal : ℕ → Value) (from ticks tick : ℕ) → from ≤ tick → tick < from + ticks → value_before signal tick ≢ signal tick →
    Contains (flat_map (change_at signal) (range_with_len from ticks)) (record { tick = tick; value = signal tick })
contains_from signal from zero tick a b differs = absurd (omega arith)
contains_from signal from (suc ticks) tick a b differs =
    go (cases_lt from tick) (λ late. contains_from signal (from + 1) ticks tick (omega arith) (omega arith) differs)
  where
    rest : List Change
    rest = flat_map (change_at signal) (range_with_len (from + 1) ticks)

    go : (from < tick) ⊎ (tick ≤ from) → (from < tick → Contains rest (record { tick = tick; value = signal tick })) →
        Contains (change_at signal from ++ rest) (record { tick = tick; value = signal tick })
    go (inl late) after = Contains-append_right (change_at signal from) rest _ (after late)
    go (inr here) after =
        let at : from ≡ tick = omega arith in
        rw at (Contains-append_left (change_at signal tick) _ _ (rw (change_at-some signal tick differs) (0, omega arith, refl)))

-- a signal's waveform has a change at just the ticks where the signal isn't what it was
pub Contains-wave_of_iff : (signal : ℕ → Value) (from to tick : ℕ) (value : Value) →
    Contains (wave_of signal from to).changes (record { tick = tick; value = value })
    ↔ ((from ≤ tick) × (tick < to) × (signal tick ≡ value) × (value_before signal tick ≢ value))
Contains-wave_of_iff signal from to tick value = (
  (λ found. All-contains Is (changes_between signal from to) (record { tick = tick; value = value }) each found),
  (λ h. rw (← h.2) (contains_from signal from (to - from) tick h.0 (omega arith) (λ d. h.3 (d ∙ h.2)))),
)
  where
    Is : Change → Type 0
    Is change = (from ≤ change.tick) × (change.tick < to) × (signal change.tick ≡ change.value) × (value_before signal change.tick ≢ change.value)

    each : All Is (changes_between signal from to)
    each = all_from Is signal from (to - from) (λ at a b differs. (a, omega arith, refl, differs))

-- ---- the ticks of any waveform

-- no change is before the tick from which the changes alternate
ticks_from : (before : Value) (low : ℕ) (changes : List Change) → Alternates before low changes → All (λ (change : Change). low ≤ change.tick) changes
ticks_from before low [] h = All-nil (λ (change : Change). low ≤ change.tick)
ticks_from before low (first ∷ changes) (a, differs, rest) =
    let later = ticks_from first.value (first.tick + 1) changes rest in
    All-cons (λ (change : Change). low ≤ change.tick) first changes a (λ k d l. omega (arith, later k d l))

-- the ticks of changes that alternate rise strictly
pub AllPairs-Alternates : (before : Value) (low : ℕ) (changes : List Change) → Alternates before low changes → TicksRise changes
AllPairs-Alternates before low [] h = λ i j d a b. absurd (omega arith)
AllPairs-Alternates before low (first ∷ changes) (a, differs, rest) =
    let later = ticks_from first.value (first.tick + 1) changes rest in
    AllPairs-cons (λ (earlier later : Change). earlier.tick < later.tick) first changes (λ k d l. omega (arith, later k d l))
    (AllPairs-Alternates first.value (first.tick + 1) changes rest)

-- the changes of a span are before its end
pub All-wave_of : (signal : ℕ → Value) (from to : ℕ) → All (λ (change : Change). change.tick < to) (wave_of signal from to).changes
All-wave_of signal from to = all_from (λ (change : Change). change.tick < to) signal from (to - from) (λ tick a b differs. omega arith)

-- ---- one tick more

pub value_in_the_end-append : (v : Value) (xs ys : List Change) → value_in_the_end v (xs ++ ys) ≡ value_in_the_end (value_in_the_end v xs) ys
value_in_the_end-append v [] ys = refl
value_in_the_end-append v (x ∷ xs) ys = value_in_the_end-append x.value xs ys

-- the change at a tick brings the signal's value
value_in_the_end-change_at : (signal : ℕ → Value) (at : ℕ) → value_in_the_end (value_before signal at) (change_at signal at) ≡ signal at
value_in_the_end-change_at signal at = go (is_same (signal at) (value_before signal at)) refl
  where
    go : (same : Bool) → is_same (signal at) (value_before signal at) ≡ same →
        value_in_the_end (value_before signal at) (cond same [] (record { tick = at; value = signal at } ∷ [])) ≡ signal at
    go true e = sym (is_same-true _ _ e)
    go false e = refl

end_from : (signal : ℕ → Value) (from ticks : ℕ) →
    value_in_the_end (value_before signal from) (flat_map (change_at signal) (range_with_len from ticks)) ≡ value_before signal (from + ticks)
end_from signal from zero = rw add-zero refl
end_from signal from (suc ticks) =
    let end : from + 1 + ticks ≡ from + suc ticks = omega arith in
    let next : value_before signal (from + 1) ≡ signal from = rw add-one refl in
    value_in_the_end-append (value_before signal from) (change_at signal from) _
    ∙ rw (value_in_the_end-change_at signal from, ← next, ← end) (end_from signal (from + 1) ticks)

-- in the end a waveform shows what the signal was one tick before the end
pub last_value-wave_of : (signal : ℕ → Value) (from to : ℕ) → from ≤ to → last_value (wave_of signal from to) ≡ value_before signal to
last_value-wave_of signal from to a =
    let end : from + (to - from) ≡ to = omega arith in
    end_from signal from (to - from) ∙ ap (value_before signal) end

-- so one tick more is a change where the value isn't the last one
pub wave_of-more : (signal : ℕ → Value) (from to : ℕ) → from ≤ to →
    joined (wave_of signal from to) (cond (is_same (signal to) (last_value (wave_of signal from to))) [] (record { tick = to; value = signal to } ∷ []))
    ≡ wave_of signal from (to + 1)
wave_of-more signal from to a =
    let one : to + 1 - to ≡ 1 = omega arith in
    let now : (wave_of signal to (to + 1)).changes ≡ change_at signal to = rw (one, append-nil) refl in
    rw (last_value-wave_of signal from to a) (rw now at (joined-wave_of signal from to (to + 1) a (omega arith)))
