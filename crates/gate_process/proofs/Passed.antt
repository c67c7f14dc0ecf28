-- The changes that are left of a list whose ticks rise, once those up to a tick are passed.
use Rattle.std.proofs.Common.{◌≡◌, ℕ, zero, suc, ◌+◌, ◌<◌, ◌≤◌, nat_le, Bool, true, false, cond, List, [], ◌∷◌, ◌++◌, length, All, take, drop, refl, ap, sym, ◌∙◌, arith, leb-true, leb-false, one-add, Option, None, Some, slice_get}
use Rattle.std.specs.Option.{option_map, unwrap_or}
use Rattle.std.proofs.lemmas.Bool.{le-leb, lt-leb}
use Rattle.std.proofs.lemmas.List.Elements.{All-head, All-tail, All-append}
use Rattle.std.proofs.lemmas.List.Kept.{AllPairs-cons}
use Rattle.std.proofs.lemmas.Option.{same_Some}
use Rattle.logic3.specs.declared.value.Value.{Value}
use Rattle.logic3.specs.declared.change.Change.{Change}
use Rattle.logic3.specs.Rising.{TicksRise}
use Rattle.logic3.specs.Wave.{value_after, value_in_the_end}
use Rattle.gate_process.specs.Knowledge.{unknown_from}
use Rattle.gate_process.specs.LaterChanges.{first_tick, due_by}

rise_tail : (first : Change) (changes : List Change) → TicksRise (first ∷ changes) → TicksRise changes
rise_tail first changes rise i j d low inside = rise (suc i) (suc j) d (omega arith) (omega arith)

-- all of them are after a tick that the first is after
pub all_after : (first : Change) (changes : List Change) (tick : ℕ) → TicksRise (first ∷ changes) → tick < first.tick →
    All (λ (change : Change). tick < change.tick) (first ∷ changes)
all_after first changes tick rise early zero d inside = early
all_after first changes tick rise early (suc k) d inside =
    let later = rise 0 (suc k) d (omega arith) inside in omega (arith, later, early)

-- before all changes the value is the one before them
pub value_before_all : (before : Value) (changes : List Change) (tick : ℕ) → All (λ (change : Change). tick < change.tick) changes →
    value_after before changes tick ≡ before
value_before_all before [] tick after = refl
value_before_all before (first ∷ changes) tick after =
    rw (lt-leb first.tick tick (All-head (λ (change : Change). tick < change.tick) first changes after))
    (value_before_all before changes tick (All-tail (λ (change : Change). tick < change.tick) first changes after))

-- from the tick on what is left shows the same
pub left_shows : (before : Value) (changes : List Change) (tick late : ℕ) → tick ≤ late →
    value_after (value_in_the_end before (take (due_by tick changes) changes)) (drop (due_by tick changes) changes) late
    ≡ value_after before changes late
left_shows before [] tick late h = refl
left_shows before (first ∷ changes) tick late h = go (nat_le first.tick tick) refl (left_shows first.value changes tick late h)
  where
    go : (due : Bool) → nat_le first.tick tick ≡ due →
        value_after (value_in_the_end first.value (take (due_by tick changes) changes)) (drop (due_by tick changes) changes) late
        ≡ value_after first.value changes late →
        value_after (value_in_the_end before (take (due_by tick (first ∷ changes)) (first ∷ changes)))
        (drop (due_by tick (first ∷ changes)) (first ∷ changes)) late
        ≡ value_after before (first ∷ changes) late
    go true is rest =
        let past = leb-true first.tick tick is in
        rw (is, one-add, le-leb first.tick late (omega (arith, past, h))) rest
    go false is rest = rw is refl

-- it is after the tick
pub left_after : (changes : List Change) (tick : ℕ) → TicksRise changes → All (λ (change : Change). tick < change.tick) (drop (due_by tick changes) changes)
left_after [] tick rise = λ k d inside. absurd (omega arith)
left_after (first ∷ changes) tick rise =
    go (nat_le first.tick tick) refl (left_after changes tick (rise_tail first changes rise))
  where
    go : (due : Bool) → nat_le first.tick tick ≡ due →
        All (λ (change : Change). tick < change.tick) (drop (due_by tick changes) changes) →
        All (λ (change : Change). tick < change.tick) (drop (due_by tick (first ∷ changes)) (first ∷ changes))
    go true is rest = rw (is, one-add) rest
    go false is rest = rw is (all_after first changes tick rise (leb-false first.tick tick is))

-- and its ticks rise
pub left_rises : (changes : List Change) (count : ℕ) → TicksRise changes → TicksRise (drop count changes)
left_rises changes zero rise = rise
left_rises [] (suc count) rise = rise
left_rises (first ∷ changes) (suc count) rise = left_rises changes count (rise_tail first changes rise)

pub due_within : (changes : List Change) (tick : ℕ) → due_by tick changes ≤ length changes
due_within [] tick = omega arith
due_within (first ∷ changes) tick = go (nat_le first.tick tick) (due_within changes tick)
  where
    go : (due : Bool) → due_by tick changes ≤ length changes → cond due (1 + due_by tick changes) 0 ≤ suc (length changes)
    go true rest = omega arith
    go false rest = omega arith

-- so the value at the tick is that of the last change that is passed
pub value_now : (before : Value) (changes : List Change) (tick : ℕ) → TicksRise changes →
    value_in_the_end before (take (due_by tick changes) changes) ≡ value_after before changes tick
value_now before changes tick rise =
    sym (value_before_all (value_in_the_end before (take (due_by tick changes) changes)) (drop (due_by tick changes) changes) tick (left_after changes tick rise))
    ∙ left_shows before changes tick tick (omega arith)

-- ---- the first change

-- before its tick the value is the one before all of them
pub steady_before_first : (before : Value) (changes : List Change) (tick : ℕ) → TicksRise changes → tick < first_tick changes →
    value_after before changes tick ≡ before
steady_before_first before [] tick rise early = refl
steady_before_first before (first ∷ changes) tick rise early = value_before_all before (first ∷ changes) tick (all_after first changes tick rise early)

-- and all of them are still to come
pub after_before_first : (changes : List Change) (tick : ℕ) → TicksRise changes → tick < first_tick changes →
    All (λ (change : Change). tick < change.tick) changes
after_before_first [] tick rise early = λ k d inside. absurd (omega arith)
after_before_first (first ∷ changes) tick rise early = all_after first changes tick rise early

-- it comes after a tick that all of them are after; if there is none, no tick is as late
pub first_after : (changes : List Change) (tick : ℕ) → All (λ (change : Change). tick < change.tick) changes → tick < first_tick [] →
    tick < first_tick changes
first_after [] tick after early = early
first_after (first ∷ changes) tick after early = All-head (λ (change : Change). tick < change.tick) first changes after

-- it is the first of the changes, else that to X
pub first_is : (changes ending : List Change) (first : ℕ) → option_map (λ (change : Change). change.tick) (slice_get changes 0) ≡ Some first →
    first ≡ first_tick (changes ++ ending)
first_is [] ending first is = cc
first_is (change ∷ changes) ending first is = sym (same_Some change.tick first is)

pub first_unknown : (changes : List Change) (unknown : Option ℕ) → option_map (λ (change : Change). change.tick) (slice_get changes 0) ≡ None →
    unwrap_or unknown (first_tick []) ≡ first_tick (changes ++ unknown_from unknown)
first_unknown [] None none = refl
first_unknown [] (Some tick) none = refl
first_unknown (change ∷ changes) unknown none = cc

-- ---- changes with others behind them

only_after : (first frontier : ℕ) (value : Value) → first < frontier →
    All (λ (later : Change). first < later.tick) (record { tick = frontier; value = value } ∷ [])
only_after first frontier value below zero d inside = below
only_after first frontier value below (suc k) d inside = absurd (omega arith)

-- a later one leaves the ticks rising
pub rise_with : (changes : List Change) (frontier : ℕ) (value : Value) → TicksRise changes →
    All (λ (change : Change). change.tick < frontier) changes → TicksRise (changes ++ record { tick = frontier; value = value } ∷ [])
rise_with [] frontier value rise past = λ i j d low inside. absurd (omega arith)
rise_with (first ∷ changes) frontier value rise past =
    AllPairs-cons (λ (a : Change) (b : Change). a.tick < b.tick) first (changes ++ record { tick = frontier; value = value } ∷ [])
    (All-append (λ (later : Change). first.tick < later.tick) changes (record { tick = frontier; value = value } ∷ [])
    (λ k d inside. rise 0 (suc k) d (omega arith) (omega (arith, inside)))
    (only_after first.tick frontier value (All-head (λ (change : Change). change.tick < frontier) first changes past)))
    (rise_with changes frontier value (rise_tail first changes rise) (All-tail (λ (change : Change). change.tick < frontier) first changes past))

-- those that aren't due don't count
pub due_with : (changes ending : List Change) (tick : ℕ) → due_by tick ending ≡ 0 → due_by tick (changes ++ ending) ≡ due_by tick changes
due_with [] ending tick none = none
due_with (first ∷ changes) ending tick none = ap (λ n. cond (nat_le first.tick tick) (1 + n) 0) (due_with changes ending tick none)
