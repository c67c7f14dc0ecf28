-- A waveform is that of the signal that it shows.
use Rattle.std.proofs.Common.{◌≡◌, ℕ, zero, suc, ◌+◌, ◌-◌, ◌<◌, ◌≤◌, true, cond, List, [], ◌∷◌, ◌++◌, All, flat_map, refl, ap, sym, ◌∙◌, arith, add-one, append-nil, ◌⊎◌, inl, inr}
use Rattle.std.specs.List.{range_with_len}
use Rattle.std.proofs.lemmas.Bool.{le-leb, lt-leb, cases_lt}
use Rattle.std.proofs.lemmas.List.Elements.{All-head, All-tail}
use Rattle.logic3.specs.declared.value.Value.{Value}
use Rattle.logic3.specs.declared.change.Change.{Change}
use Rattle.logic3.specs.Value.{is_same, is_same_equiv}
use Rattle.logic3.specs.Wave.{value_after, value_before, change_at, changes_between, Alternates}
use Rattle.logic3.proofs.Waves.{changes_between-split, changes_between-same, change_at-some}

quiet_from : (signal : ℕ → Value) (from ticks : ℕ) →
    ((tick : ℕ) → from ≤ tick → tick < from + ticks → signal tick ≡ value_before signal tick) →
    flat_map (change_at signal) (range_with_len from ticks) ≡ []
quiet_from signal from zero h = refl
quiet_from signal from (suc ticks) h =
    let here : is_same (signal from) (value_before signal from) ≡ true =
    ap (λ v. is_same v (value_before signal from)) (h from (omega arith) (omega arith)) ∙ is_same_equiv.refl (value_before signal from) in
    ap (λ b. cond b [] (record { tick = from; value = signal from } ∷ []) ++ flat_map (change_at signal) (range_with_len (from + 1) ticks)) here
    ∙ quiet_from signal (from + 1) ticks (λ tick a b. h tick (omega arith) (omega arith))

-- where each value is the one before it there are no changes
pub quiet : (signal : ℕ → Value) (from to : ℕ) → ((tick : ℕ) → from ≤ tick → tick < to → signal tick ≡ value_before signal tick) →
    changes_between signal from to ≡ []
quiet signal from to h = quiet_from signal from (to - from) (λ tick a b. h tick a (omega arith))

-- the changes at one tick
pub one_change : (signal : ℕ → Value) (at : ℕ) → changes_between signal at (at + 1) ≡ change_at signal at
one_change signal at =
    ap (λ n. flat_map (change_at signal) (range_with_len at n)) (let e : at + 1 - at ≡ 1 = omega arith in e) ∙ append-nil (change_at signal at)

-- before its first change a waveform shows the value before
pub value_after-ahead : (v before : Value) (changes : List Change) (from tick : ℕ) → Alternates before from changes → tick < from →
    value_after v changes tick ≡ v
value_after-ahead v before [] from tick rise early = refl
value_after-ahead v before (first ∷ changes) from tick rise early =
    let later : tick < first.tick = omega (arith, rise.0) in
    rw (lt-leb first.tick tick later) (value_after-ahead v first.value changes (first.tick + 1) tick rise.2 (omega arith))

-- where a signal stays at the value that it had there are no changes
quiet_at : (signal : ℕ → Value) (v : Value) (from to : ℕ) → value_before signal from ≡ v →
    ((tick : ℕ) → from ≤ tick → tick < to → signal tick ≡ v) → changes_between signal from to ≡ []
quiet_at signal v from to before same = quiet signal from to (λ tick a b. same tick a b ∙ sym (go tick a b (cases_lt from tick)))
  where
    go : (tick : ℕ) → from ≤ tick → tick < to → (from < tick) ⊎ (tick ≤ from) → value_before signal tick ≡ v
    go tick a b (inr here) = let at : tick ≡ from = omega arith in ap (value_before signal) at ∙ before
    go zero a b (inl late) = absurd (omega arith)
    go (suc tick) a b (inl late) = same tick (omega arith) (omega arith)

-- the changes of a waveform's signal are the changes of the waveform
pub changes_between-value_after : (before : Value) (changes : List Change) (from to : ℕ) → Alternates before from changes →
    All (λ (change : Change). change.tick < to) changes → value_before (value_after before changes) from ≡ before →
    changes_between (value_after before changes) from to ≡ changes
changes_between-value_after before [] from to rise past start = quiet_at (λ tick. before) before from to start (λ tick a b. refl)
changes_between-value_after before (first ∷ changes) from to rise past start =
    let signal : ℕ → Value = value_after before (first ∷ changes) in
    let rest : ℕ → Value = value_after first.value changes in
    let here : first.tick < to = All-head (λ (change : Change). change.tick < to) first changes past in
    let after : from ≤ first.tick = rise.0 in
    let due : (tick : ℕ) → first.tick ≤ tick → signal tick ≡ rest tick = λ tick a. rw (le-leb first.tick tick a) refl in
    let ahead : (tick : ℕ) → tick < first.tick → signal tick ≡ before =
    λ tick a. value_after-ahead before before (first ∷ changes) first.tick tick (omega arith, rise.1, rise.2) a in
    let now : signal first.tick ≡ first.value =
    due first.tick (omega arith) ∙ value_after-ahead first.value first.value changes (first.tick + 1) first.tick rise.2 (omega arith) in
    let was : value_before signal first.tick ≡ before = shown_before signal before from first.tick after start ahead in
    let none : changes_between signal from first.tick ≡ [] = quiet_at signal before from first.tick start (λ tick a b. ahead tick b) in
    let one : changes_between signal first.tick (first.tick + 1) ≡ first ∷ [] =
    one_change signal first.tick
    ∙ change_at-some signal first.tick (λ same. rise.1 (sym now ∙ sym same ∙ was))
    ∙ ap (λ v. record { tick = first.tick; value = v } ∷ []) now in
    let more : changes_between signal (first.tick + 1) to ≡ changes =
    changes_between-same signal rest (first.tick + 1) to (rw add-one (due first.tick (omega arith)))
    (λ tick a b. due tick (omega arith))
    ∙ changes_between-value_after first.value changes (first.tick + 1) to rise.2 (All-tail (λ (change : Change). change.tick < to) first changes past)
    (rw add-one (value_after-ahead first.value first.value changes (first.tick + 1) first.tick rise.2 (omega arith))) in
    changes_between-split signal from first.tick to after (omega arith)
    ∙ ap (λ cs. cs ++ changes_between signal first.tick to) none
    ∙ changes_between-split signal first.tick (first.tick + 1) to (omega arith) (omega arith)
    ∙ ap (λ cs. cs ++ changes_between signal (first.tick + 1) to) one
    ∙ ap (λ cs. first ∷ cs) more
  where
    shown_before : (signal : ℕ → Value) (v : Value) (from at : ℕ) → from ≤ at → value_before signal from ≡ v →
        ((tick : ℕ) → tick < at → signal tick ≡ v) → value_before signal at ≡ v
    shown_before signal v from zero a start same = let none : from ≡ 0 = omega arith in rw none at start
    shown_before signal v from (suc at) a start same = same at (omega arith)
