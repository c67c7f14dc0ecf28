-- A waveform that is seen later, by the delay of a wire.
use Rattle.std.proofs.Common.{◌≡◌, ℕ, ◌+◌, ◌-◌, ◌<◌, ◌≤◌, nat_le, nat_lt, Bool, true, false, cond, List, [], ◌∷◌, ◌++◌, length, Option, None, Some, slice_get, refl, ap, sym, ◌∙◌, arith, leb-true, ltb-true, ltb-false, ◌⊎◌, inl, inr, one-add}
use Rattle.std.specs.Option.{option_map, option_map_or}
use Rattle.std.proofs.lemmas.Bool.{cases_lt, le-leb, lt-leb}
use Rattle.std.proofs.lemmas.List.{get_or-map, length-map, map-append}
use Rattle.std.proofs.lemmas.Option.{same_Some}
use Rattle.logic3.specs.declared.value.Value.{Value}
use Rattle.logic3.specs.declared.value.Value.TheVariants.{Unknown}
use Rattle.logic3.specs.declared.change.Change.{Change}
use Rattle.logic3.specs.Rising.{TicksRise}
use Rattle.logic3.specs.Wave.{Wave, value_after, value_at}
use Rattle.design.specs.Equations.{later}
use Rattle.gate_process.specs.Knowledge.{Knowledge, delayed, delayed_changes, unknown_from, as_known}
use Rattle.gate_process.specs.LaterChanges.{due_by, passed_value, passed_left}

-- a change, so many ticks later
abbrev pub delayed_change : ℕ → Change → Change
delayed_change wire change = record { tick = change.tick + wire; value = change.value }

-- ---- what it shows

-- before the delay of the wire is over none of the changes shows
value_early : (wire : ℕ) (before : Value) (changes : List Change) (tick : ℕ) → tick < wire →
    value_after before (delayed_changes wire changes) tick ≡ before
value_early wire before [] tick early = refl
value_early wire before (first ∷ changes) tick early =
    ap (λ due. value_after (cond due first.value before) (delayed_changes wire changes) tick) (lt-leb (first.tick + wire) tick (omega arith))
    ∙ value_early wire before changes tick early

-- from then on those show that did so many ticks earlier
same_due : (wire tick at : ℕ) → wire ≤ at → nat_le (tick + wire) at ≡ nat_le tick (at - wire)
same_due wire tick at late = go (cases_lt at (tick + wire))
  where
    go : (at < tick + wire) ⊎ (tick + wire ≤ at) → nat_le (tick + wire) at ≡ nat_le tick (at - wire)
    go (inl after) = lt-leb (tick + wire) at after ∙ sym (lt-leb tick (at - wire) (omega (arith, after, late)))
    go (inr due) = le-leb (tick + wire) at due ∙ sym (le-leb tick (at - wire) (omega (arith, due, late)))

value_late : (wire : ℕ) (before : Value) (changes : List Change) (tick : ℕ) → wire ≤ tick →
    value_after before (delayed_changes wire changes) tick ≡ value_after before changes (tick - wire)
value_late wire before [] tick late = refl
value_late wire before (first ∷ changes) tick late =
    ap (λ due. value_after (cond due first.value before) (delayed_changes wire changes) tick) (same_due wire first.tick tick late)
    ∙ value_late wire (cond (nat_le first.tick (tick - wire)) first.value before) changes tick late

-- so it shows what the waveform does, later by the wire, where that begins at X
pub shows_later : (wire : ℕ) (wave : Wave) (tick : ℕ) → (tick < wire → wave.before ≡ Unknown) →
    value_at (delayed wire wave) tick ≡ later wire (value_at wave) tick
shows_later wire wave tick unknown = go (nat_lt tick wire) refl
  where
    go : (early : Bool) → nat_lt tick wire ≡ early →
        value_at (delayed wire wave) tick ≡ option_map_or (value_at wave) (cond early None (Some (tick - wire))) Unknown
    go true e = let early = ltb-true tick wire e in value_early wire wave.before wave.changes tick early ∙ unknown early
    go false e = value_late wire wave.before wave.changes tick (ltb-false tick wire e)

-- ---- what is known of it shows X from where it isn't known

value_with : (before : Value) (changes : List Change) (change : Change) (tick : ℕ) →
    value_after before (changes ++ change ∷ []) tick ≡ cond (nat_le change.tick tick) change.value (value_after before changes tick)
value_with before [] change tick = refl
value_with before (first ∷ changes) change tick = value_with (cond (nat_le first.tick tick) first.value before) changes change tick

pub shows_known : (known : Knowledge) (tick : ℕ) → tick < known.frontier → value_at (as_known known) tick ≡ value_at known.wave tick
shows_known known tick below =
    value_with known.wave.before known.wave.changes (record { tick = known.frontier; value = Unknown }) tick
    ∙ ap (λ past. cond past Unknown (value_at known.wave tick)) (lt-leb known.frontier tick below)

pub shows_unknown : (known : Knowledge) (tick : ℕ) → known.frontier ≤ tick → value_at (as_known known) tick ≡ Unknown
shows_unknown known tick past =
    value_with known.wave.before known.wave.changes (record { tick = known.frontier; value = Unknown }) tick
    ∙ ap (λ past. cond past Unknown (value_at known.wave tick)) (le-leb known.frontier tick past)

-- where that is seen by a tick, X is seen from the tick on
pub unknown_there : (unknown : Option ℕ) (before : Value) (changes : List Change) (tick late : ℕ) →
    option_map_or (λ from. nat_le from tick) unknown false ≡ true → tick ≤ late →
    value_after before (changes ++ unknown_from unknown) late ≡ Unknown
unknown_there None before changes tick late is after = cc
unknown_there (Some from) before changes tick late is after =
    let due : nat_le from late ≡ true = le-leb from late (let l = leb-true from tick is in omega (arith, l, after)) in
    value_with before changes (record { tick = from; value = Unknown }) late
    ∙ ap (λ past. cond past Unknown (value_after before changes late)) due

-- else it isn't due
pub not_due : (unknown : Option ℕ) (tick : ℕ) → option_map_or (λ from. nat_le from tick) unknown false ≡ false →
    due_by tick (unknown_from unknown) ≡ 0
not_due None tick is = refl
not_due (Some from) tick is = rw is refl

-- the first change is seen later too
pub first_delayed : (wire : ℕ) (changes : List Change) (first : Change) → slice_get changes 0 ≡ Some first →
    Some (first.tick + wire) ≡ option_map (λ (change : Change). change.tick) (slice_get (delayed_changes wire changes) 0)
first_delayed wire [] first is = cc
first_delayed wire (change ∷ changes) first is = ap (λ (c : Change). Some (c.tick + wire)) (sym (same_Some change first is))

pub none_delayed : (wire : ℕ) (changes : List Change) → slice_get changes 0 ≡ None →
    None ≡ option_map (λ (change : Change). change.tick) (slice_get (delayed_changes wire changes) 0)
none_delayed wire [] is = refl
none_delayed wire (change ∷ changes) is = cc

-- X at the end is seen later, too
pub delayed_with : (wire frontier : ℕ) (changes : List Change) →
    delayed_changes wire (changes ++ unknown_from (Some frontier)) ≡ delayed_changes wire changes ++ unknown_from (Some (frontier + wire))
delayed_with wire frontier changes = map-append (delayed_change wire) changes (record { tick = frontier; value = Unknown } ∷ [])

-- ---- its changes

pub delayed_rise : (wire : ℕ) (changes : List Change) → TicksRise changes → TicksRise (delayed_changes wire changes)
delayed_rise wire changes rise i j d low inside =
    let long : length (delayed_changes wire changes) ≡ length changes = length-map changes (delayed_change wire) in
    let first = ap (λ (change : Change). change.tick) (get_or-map (delayed_change wire) changes i d d (omega (arith, long, low, inside))) in
    let second = ap (λ (change : Change). change.tick) (get_or-map (delayed_change wire) changes j d d (omega (arith, long, inside))) in
    let rises = rise i j d low (omega (arith, long, inside)) in
    omega (arith, first, second, rises)

-- no wire leaves them as they are
pub undelayed : (changes : List Change) → delayed_changes 0 changes ≡ changes
undelayed [] = refl
undelayed (first ∷ changes) =
    let here : first.tick + 0 ≡ first.tick = omega arith in
    λ i. record { tick = here i; value = first.value } ∷ undelayed changes i

-- ---- a walk along the changes of a pin

-- what is left of them ends in the same value and leaves the same changes
pub record Passes (wire tick : ℕ) (value : Value) (left : List Change) (before : Value) (changes : List Change) : Type 0 where
  pub value_is : passed_value wire tick value left ≡ passed_value wire tick before changes
  pub left_is : passed_left wire tick left ≡ passed_left wire tick changes

module _ (wire tick : ℕ) (value : Value) (first : Change) (others : List Change) where
  pub passes_one : (before : Value) (changes : List Change) → nat_le (first.tick + wire) tick ≡ true →
      Passes wire tick value (first ∷ others) before changes → Passes wire tick first.value others before changes
  passes_one before changes due passes =
      let one : passed_value wire tick value (first ∷ others) ≡ passed_value wire tick first.value others = rw (due, one-add) refl in
      let rest : passed_left wire tick (first ∷ others) ≡ passed_left wire tick others = rw (due, one-add) refl in
      record { value_is = sym one ∙ passes.value_is; left_is = sym rest ∙ passes.left_is }

  pub value_stops : nat_le (first.tick + wire) tick ≡ false → passed_value wire tick value (first ∷ others) ≡ value
  value_stops late = rw late refl

  pub left_stops : nat_le (first.tick + wire) tick ≡ false → passed_left wire tick (first ∷ others) ≡ delayed_changes wire (first ∷ others)
  left_stops late = rw late refl

pub value_at_end : (wire tick : ℕ) (value : Value) (left : List Change) → length left ≡ 0 → passed_value wire tick value left ≡ value
value_at_end wire tick value [] none = refl
value_at_end wire tick value (first ∷ others) none = absurd (omega (arith, none))

pub left_at_end : (wire tick : ℕ) (left : List Change) → length left ≡ 0 → passed_left wire tick left ≡ delayed_changes wire left
left_at_end wire tick [] none = refl
left_at_end wire tick (first ∷ others) none = absurd (omega (arith, none))
