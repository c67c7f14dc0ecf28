-- The first change after a tick is where a waveform next shows another value.
use Rattle.std.proofs.Common.{◌≡◌, ◌≢◌, ℕ, zero, suc, ◌+◌, ◌-◌, ◌<◌, ◌≤◌, List, [], ◌∷◌, length, take, drop, Option, Some, option_map, slice_get, refl, sym, ap, ◌∙◌, subst, arith, ◌⊎◌, inl, inr}
use Rattle.std.proofs.lemmas.Bool.{le-leb, lt-leb, cases_lt}
use Rattle.std.proofs.lemmas.List.{take_rest}
use Rattle.std.proofs.lemmas.Option.{none-some, same_Some}
use Rattle.logic3.specs.declared.value.Value.{Value}
use Rattle.logic3.specs.declared.change.Change.{Change}
use Rattle.logic3.specs.Wave.{Wave, changes_until, value_after, value_at, Alternates, IsBefore, IsWave}
use Rattle.logic3.proofs.Shown.{value_after-ahead}

-- the first tick after one at which a signal shows another value, if any
pub record IsNext (signal : ℕ → Value) (tick : ℕ) (next : Option ℕ) : Type 0 where
  pub later : (at : ℕ) → next ≡ Some at → tick < at
  pub differs : (at : ℕ) → next ≡ Some at → signal at ≢ signal tick
  pub steady : (at : ℕ) → tick ≤ at → IsBefore at next → signal at ≡ signal tick

-- the first after some is at the place after these
slice_get-drop : {A : Type 0} (xs : List A) (k : ℕ) → slice_get (drop k xs) 0 ≡ slice_get xs k
slice_get-drop [] zero = refl
slice_get-drop [] (suc k) = refl
slice_get-drop (x ∷ xs) zero = refl
slice_get-drop (x ∷ xs) (suc k) = slice_get-drop xs k

-- if the changes begin after the tick, all are after it
none_until : (before : Value) (low tick : ℕ) (changes : List Change) → tick < low → Alternates before low changes → changes_until tick changes ≡ []
none_until before low tick [] later rise = refl
none_until before low tick (first ∷ changes) later rise =
    rw (lt-leb first.tick tick (omega (arith, rise.0))) (none_until first.value (first.tick + 1) tick changes (omega (arith, rise.0)) rise.2)

-- the tick of the change after those that are not after the tick
abbrev next_tick : List Change → ℕ → Option ℕ
next_tick changes tick = option_map (λ (change : Change). change.tick) (slice_get changes (length (changes_until tick changes)))

next_tick-is : (before : Value) (low : ℕ) (changes : List Change) (tick : ℕ) → Alternates before low changes →
    IsNext (value_after before changes) tick (next_tick changes tick)
next_tick-is before low [] tick rise = record {
  later = λ at is. absurd (none-some at is);
  differs = λ at is. absurd (none-some at is);
  steady = λ at later early. refl;
}
next_tick-is before low (first ∷ changes) tick rise =
    go (cases_lt tick first.tick) (next_tick-is first.value (first.tick + 1) changes tick rise.2)
  where
    same : (at : ℕ) → first.tick ≤ at → value_after before (first ∷ changes) at ≡ value_after first.value changes at
    same at due = rw (le-leb first.tick at due) refl

    ahead : (at : ℕ) → at < first.tick → value_after before (first ∷ changes) at ≡ before
    ahead at early = value_after-ahead before before (first ∷ changes) first.tick at (omega arith, rise.1, rise.2) early

    here : value_after before (first ∷ changes) first.tick ≡ first.value
    here = same first.tick (omega arith) ∙ value_after-ahead first.value first.value changes (first.tick + 1) first.tick rise.2 (omega arith)

    first_is : tick < first.tick → IsNext (value_after before (first ∷ changes)) tick (Some first.tick)
    first_is after = record {
      later = λ at is. let e = same_Some first.tick at is in omega (arith, after, e);
      differs = λ at is equal. rise.1 (sym here ∙ ap (value_after before (first ∷ changes)) (same_Some first.tick at is) ∙ equal ∙ ahead tick after);
      steady = λ at later early. ahead at early ∙ sym (ahead tick after);
    }

    moved : first.tick ≤ tick → (next : Option ℕ) → IsNext (value_after first.value changes) tick next → IsNext (value_after before (first ∷ changes)) tick next
    moved due next rest = record {
      later = rest.later;
      differs = λ at is equal. rest.differs at is
          (sym (same at (let more = rest.later at is in omega (arith, due, more))) ∙ equal ∙ same tick due);
      steady = λ at later early. same at (omega (arith, due, later)) ∙ rest.steady at later early ∙ sym (same tick due);
    }

    go : (tick < first.tick) ⊎ (first.tick ≤ tick) → IsNext (value_after first.value changes) tick (next_tick changes tick) →
        IsNext (value_after before (first ∷ changes)) tick (next_tick (first ∷ changes) tick)
    go (inl after) rest =
        rw (lt-leb first.tick tick after, none_until first.value (first.tick + 1) tick changes (omega arith) rise.2) (first_is after)
    go (inr due) rest = rw (le-leb first.tick tick due) (moved due (next_tick changes tick) rest)

-- what halving finds: the first of the changes after those that are not after the tick
pub next_tick-found : (wave : Wave) (changes due : List Change) (tick : ℕ) (next : Option ℕ) → IsWave wave → changes ≡ wave.changes →
    due ≡ changes_until tick changes →
    next ≡ option_map (λ (change : Change). change.tick) (slice_get (take (length changes - length due) (drop (length due) changes)) 0) →
    IsNext (value_at wave) tick next
next_tick-found wave changes due tick next rise same are is =
    let found : next ≡ next_tick wave.changes tick =
    is
    ∙ ap (λ rest. option_map (λ (change : Change). change.tick) (slice_get rest 0)) (take_rest changes (length due))
    ∙ ap (option_map (λ (change : Change). change.tick)) (slice_get-drop changes (length due))
    ∙ ap (λ until. option_map (λ (change : Change). change.tick) (slice_get changes (length until))) are
    ∙ ap (λ all. next_tick all tick) same in
    subst (IsNext (value_at wave) tick) (sym found) (next_tick-is wave.before 0 wave.changes tick rise)
