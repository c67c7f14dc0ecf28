-- Since when a waveform shows what it shows.
use Rattle.std.proofs.Common.{◌≡◌, ◌≢◌, ℕ, zero, suc, ◌+◌, ◌-◌, ◌<◌, ◌≤◌, true, false, List, [], ◌∷◌, length, get_or, Bool, refl, ap, sym, ◌∙◌, arith, ◌⊎◌, inl, inr, Option, None, Some, option_map, slice_get, cond, true≢false}
use Rattle.std.specs.Option.{option_map_or, unwrap_or}
use Rattle.std.proofs.lemmas.Bool.{cases_lt, le-leb, lt-leb}
use Rattle.logic3.specs.declared.value.Value.{Value}
use Rattle.logic3.specs.declared.change.Change.{Change}
use Rattle.logic3.specs.Value.{is_same, is_same_equiv}
use Rattle.std.proofs.lemmas.Option.{slice_get_read}
use Rattle.logic3.specs.declared.value.Value.TheVariants.{Unknown}
use Rattle.logic3.specs.Wave.{Wave, changes_until, value_after, value_at, Alternates, IsWave}
use Rattle.design.specs.Equations.{signals_in}
use Rattle.logic3.proofs.CallerLemmas.{value_after-ahead, is_same-true}
use Rattle.causes.specs.Deciding.{since, tick_in_the_end, last_tick}

-- the tick of the last change that is not after a tick, else the one before
abbrev tick_after : Option ℕ → List Change → ℕ → Option ℕ
tick_after before changes tick = tick_in_the_end before (changes_until tick changes)

tick_in_the_end-cons : (before : Option ℕ) (first : Change) (changes : List Change) →
    tick_in_the_end before (first ∷ changes) ≡ option_map (λ (change : Change). change.tick) (slice_get (first ∷ changes) (length changes))
tick_in_the_end-cons before first [] = refl
tick_in_the_end-cons before first (second ∷ changes) = tick_in_the_end-cons (Some first.tick) second changes

pub tick_in_the_end-last : (changes : List Change) →
    tick_in_the_end None changes ≡ option_map (λ (change : Change). change.tick) (slice_get changes (length changes - 1))
tick_in_the_end-last [] = refl
tick_in_the_end-last (first ∷ changes) =
    let last : suc (length changes) - 1 ≡ length changes = omega arith in
    rw last (tick_in_the_end-cons None first changes)

-- before the first change the tick is the one before
tick_after-ahead : (b : Option ℕ) (before : Value) (changes : List Change) (from tick : ℕ) → Alternates before from changes → tick < from →
    tick_after b changes tick ≡ b
tick_after-ahead b before [] from tick rise early = refl
tick_after-ahead b before (first ∷ changes) from tick rise early =
    let later : tick < first.tick = omega (arith, rise.0) in
    rw (lt-leb first.tick tick later) (tick_after-ahead b first.value changes (first.tick + 1) tick rise.2 (omega arith))

-- from a tick to the next a waveform stays, or it has a change there
next_tick : (b : Option ℕ) (before : Value) (changes : List Change) (from tick : ℕ) → Alternates before from changes →
    ((value_after before changes (suc tick) ≡ value_after before changes tick) × (tick_after b changes (suc tick) ≡ tick_after b changes tick))
    ⊎ ((value_after before changes (suc tick) ≢ value_after before changes tick) × (tick_after b changes (suc tick) ≡ Some (suc tick)))
next_tick b before [] from tick rise = inl (refl, refl)
next_tick b before (first ∷ changes) from tick rise = go (cases_lt tick first.tick) (cases_lt (suc tick) first.tick) (next_tick (Some first.tick) first.value changes (first.tick + 1) tick rise.2)
  where
    go : (tick < first.tick) ⊎ (first.tick ≤ tick) → (suc tick < first.tick) ⊎ (first.tick ≤ suc tick) →
        ((value_after first.value changes (suc tick) ≡ value_after first.value changes tick)
        × (tick_after (Some first.tick) changes (suc tick) ≡ tick_after (Some first.tick) changes tick))
        ⊎ ((value_after first.value changes (suc tick) ≢ value_after first.value changes tick)
        × (tick_after (Some first.tick) changes (suc tick) ≡ Some (suc tick))) →
        ((value_after before (first ∷ changes) (suc tick) ≡ value_after before (first ∷ changes) tick)
        × (tick_after b (first ∷ changes) (suc tick) ≡ tick_after b (first ∷ changes) tick))
        ⊎ ((value_after before (first ∷ changes) (suc tick) ≢ value_after before (first ∷ changes) tick)
        × (tick_after b (first ∷ changes) (suc tick) ≡ Some (suc tick)))
    go (inr due) later rest = rw (le-leb first.tick tick due, le-leb first.tick (suc tick) (omega arith)) rest
    go (inl ahead) (inl still) rest =
        rw (lt-leb first.tick tick ahead, lt-leb first.tick (suc tick) still)
        (inl (
          value_after-ahead before first.value changes (first.tick + 1) (suc tick) rise.2 (omega arith)
              ∙ sym (value_after-ahead before first.value changes (first.tick + 1) tick rise.2 (omega arith)),
          tick_after-ahead b first.value changes (first.tick + 1) (suc tick) rise.2 (omega arith)
              ∙ sym (tick_after-ahead b first.value changes (first.tick + 1) tick rise.2 (omega arith)),
        ))
    go (inl ahead) (inr here) rest =
        let at : first.tick ≡ suc tick = omega arith in
        rw (lt-leb first.tick tick ahead, le-leb first.tick (suc tick) here)
        (inr (
          λ same. rise.1 (sym (value_after-ahead first.value first.value changes (first.tick + 1) (suc tick) rise.2 (omega arith)) ∙ same
              ∙ value_after-ahead before first.value changes (first.tick + 1) tick rise.2 (omega arith)),
          tick_after-ahead (Some first.tick) first.value changes (first.tick + 1) (suc tick) rise.2 (omega arith) ∙ ap Some at,
        ))

-- a tick that was found is not after the one that was asked for
tick_after-le : (b : Option ℕ) (changes : List Change) (tick : ℕ) → unwrap_or b 0 ≤ tick → unwrap_or (tick_after b changes tick) 0 ≤ tick
tick_after-le b [] tick le = le
tick_after-le b (first ∷ changes) tick le = go (cases_lt tick first.tick) (λ b le. tick_after-le b changes tick le)
  where
    go : (tick < first.tick) ⊎ (first.tick ≤ tick) → ((b : Option ℕ) → unwrap_or b 0 ≤ tick → unwrap_or (tick_after b changes tick) 0 ≤ tick) →
        unwrap_or (tick_after b (first ∷ changes) tick) 0 ≤ tick
    go (inl later) rest = rw (lt-leb first.tick tick later) (rest b le)
    go (inr due) rest = rw (le-leb first.tick tick due) (rest (Some first.tick) due)

not_same : (v w : Value) → v ≢ w → is_same v w ≡ false
not_same v w differ = go (is_same v w) refl
  where
    go : (b : Bool) → is_same v w ≡ b → is_same v w ≡ false
    go true e = absurd (differ (is_same-true v w e))
    go false e = e

-- since when a waveform shows what it shows: its last change, and tick 0 where there is none
pub since-changes : (before : Value) (changes : List Change) (from tick : ℕ) → Alternates before from changes →
    since (value_after before changes) tick ≡ unwrap_or (last_tick changes tick) 0
since-changes before changes from zero rise = let le = tick_after-le None changes 0 (omega arith) in omega (arith, le)
since-changes before changes from (suc tick) rise = go (next_tick None before changes from tick rise) (since-changes before changes from tick rise)
  where
    go : ((value_after before changes (suc tick) ≡ value_after before changes tick) × (tick_after None changes (suc tick) ≡ tick_after None changes tick))
        ⊎ ((value_after before changes (suc tick) ≢ value_after before changes tick) × (tick_after None changes (suc tick) ≡ Some (suc tick))) →
        since (value_after before changes) tick ≡ unwrap_or (last_tick changes tick) 0 →
        since (value_after before changes) (suc tick) ≡ unwrap_or (last_tick changes (suc tick)) 0
    go (inl same) earlier = rw (same.0, is_same_equiv.refl (value_after before changes tick), same.1) earlier
    go (inr differ) earlier = rw (not_same _ _ differ.0, differ.1) refl

-- the same of a net's waveform among others
pub since-signals : (waves : List Wave) (net tick : ℕ) (wave : Wave) → net < length waves → wave ≡ get_or waves net wave → IsWave wave →
    since (signals_in waves net) tick ≡ unwrap_or (last_tick wave.changes tick) 0
since-signals waves net tick wave below is alternates =
    ap (λ place. since (λ at. option_map_or (λ (w : Wave). value_at w at) place Unknown) tick) (slice_get_read waves (length waves) net wave refl below is)
    ∙ since-changes wave.before wave.changes 0 tick alternates

pub since-le : (signal : ℕ → Value) (tick : ℕ) → since signal tick ≤ tick
since-le signal zero = omega arith
since-le signal (suc tick) = go (is_same (signal (suc tick)) (signal tick)) (since-le signal tick)
  where
    go : (same : Bool) → since signal tick ≤ tick → cond same (since signal tick) (suc tick) ≤ suc tick
    go true le = omega (arith, le)
    go false le = omega arith

-- from that tick on it shows what it shows
pub since-holds : (signal : ℕ → Value) (tick at : ℕ) → since signal tick ≤ at → at ≤ tick → signal at ≡ signal tick
since-holds signal zero at from to = ap signal (let e : at ≡ zero = omega (arith, to) in e)
since-holds signal (suc tick) at from to =
    go (is_same (signal (suc tick)) (signal tick)) refl from (λ from to. since-holds signal tick at from to) (cases_lt tick at)
  where
    here : tick < at → signal at ≡ signal (suc tick)
    here past = ap signal (let e : at ≡ suc tick = omega (arith, past, to) in e)

    go : (same : Bool) → is_same (signal (suc tick)) (signal tick) ≡ same → cond same (since signal tick) (suc tick) ≤ at →
        (since signal tick ≤ at → at ≤ tick → signal at ≡ signal tick) → (tick < at) ⊎ (at ≤ tick) → signal at ≡ signal (suc tick)
    go same is from rest (inl past) = here past
    go true is from rest (inr within) = rest from within ∙ sym (is_same-true (signal (suc tick)) (signal tick) is)
    go false is from rest (inr within) = absurd (omega (arith, from, within))

-- and one tick before it something else
pub since-changed : (signal : ℕ → Value) (tick before : ℕ) → since signal tick ≡ suc before → signal before ≢ signal tick
since-changed signal zero before is = absurd (omega (arith, is))
since-changed signal (suc tick) before is =
    go (is_same (signal (suc tick)) (signal tick)) refl is (λ is. since-changed signal tick before is)
  where
    go : (same : Bool) → is_same (signal (suc tick)) (signal tick) ≡ same → cond same (since signal tick) (suc tick) ≡ suc before →
        (since signal tick ≡ suc before → signal before ≢ signal tick) → signal before ≢ signal (suc tick)
    go true e is rest = λ same. rest is (same ∙ is_same-true (signal (suc tick)) (signal tick) e)
    go false e is rest = λ same.
        let back : before ≡ tick = omega (arith, is) in
        true≢false (sym (is_same_equiv.refl (signal (suc tick))) ∙ ap (is_same (signal (suc tick))) (sym same ∙ ap signal back) ∙ e)
