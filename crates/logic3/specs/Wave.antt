use Rattle.std.specs.Prelude.{◌≡◌, ◌≢◌, ℕ, zero, suc, ◌+◌, ◌-◌, ◌<◌, ◌≤◌, nat_le, ◌==◌, nat_lt, Bool, if◌then◌else◌, List, [], ◌∷◌, ◌++◌, flat_map, filter, Option, None, Some}
use Rattle.std.specs.List.{range_with_len}
use Rattle.std.specs.Ordering.{on, eq_of_both}
use Rattle.std.specs.Cmp.{IsEquivalence, and_equiv, on_equiv, nat_eq_equiv}
use Rattle.std.specs.Cmp.Lexicographic.{pointwise, lists_equiv}
use Rattle.logic3.specs.declared.value.Value.{Value}
use Rattle.logic3.specs.declared.value.Value.TheVariants.{Unknown}
use Rattle.logic3.specs.Value.{is_same, is_same_equiv}
use Rattle.logic3.specs.declared.change.Change.{Change}

-- a waveform: a value before the first change, and the changes
pub record Wave : Type 0 where
  pub before : Value
  pub changes : List Change

-- the value of the last change that is not after the tick, else the value before
abbrev pub value_after : Value → List Change → ℕ → Value
value_after before [] tick = before
value_after before (change ∷ changes) tick =
    value_after (if nat_le change.tick tick then change.value else before) changes tick

abbrev pub value_at : Wave → ℕ → Value
value_at wave tick = value_after wave.before wave.changes tick

-- the value of the last change, or the value before if there is none
abbrev pub value_in_the_end : Value → List Change → Value
value_in_the_end before [] = before
value_in_the_end before (change ∷ changes) = value_in_the_end change.value changes

abbrev pub last_value : Wave → Value
last_value wave = value_in_the_end wave.before wave.changes

-- a waveform with more changes at its end
abbrev pub joined : Wave → List Change → Wave
joined wave changes = record wave { changes = wave.changes ++ changes }

-- the changes before a tick
abbrev pub changes_below : ℕ → List Change → List Change
changes_below tick changes = filter (λ (change : Change). nat_lt change.tick tick) changes

-- the changes that are not after a tick
abbrev pub changes_until : ℕ → List Change → List Change
changes_until tick changes = filter (λ (change : Change). nat_le change.tick tick) changes

-- the changes from a tick on
abbrev pub changes_from : ℕ → List Change → List Change
changes_from tick changes = filter (λ (change : Change). nat_le tick change.tick) changes

-- the changes from one tick up to but not including another
abbrev pub changes_within : ℕ → ℕ → List Change → List Change
changes_within from to changes = changes_below to (changes_from from changes)

-- a waveform without its changes before a tick: the last of them, if any, gives the value before the others
abbrev pub without_below : ℕ → Wave → Wave
without_below tick wave = record {
  before = value_in_the_end wave.before (changes_below tick wave.changes);
  changes = changes_from tick wave.changes;
}

-- the tick is before the optional one; true if there is none
abbrev pub IsBefore : ℕ → Option ℕ → Type 0
IsBefore tick None = Unit {0}
IsBefore tick (Some end) = tick < end

-- the value one tick earlier; before tick 0 it is X
abbrev pub value_before : (ℕ → Value) → ℕ → Value
value_before signal zero = Unknown
value_before signal (suc tick) = signal tick

-- a change of a signal, at a tick from one up to but not including another
pub record IsChangeOf (signal : ℕ → Value) (from to : ℕ) (change : Change) : Type 0 where
  pub from_start : from ≤ change.tick
  pub before_end : change.tick < to
  pub shown : signal change.tick ≡ change.value
  pub differs : value_before signal change.tick ≢ change.value

-- the change at a tick, if any
abbrev pub change_at : (ℕ → Value) → ℕ → List Change
change_at signal tick =
    if is_same (signal tick) (value_before signal tick) then [] else record { tick = tick; value = signal tick } ∷ []

-- the changes at the ticks from one up to but not including another
abbrev pub changes_between : (ℕ → Value) → ℕ → ℕ → List Change
changes_between signal from to = flat_map (change_at signal) (range_with_len from (to - from))

-- the waveform of a signal at these ticks
abbrev pub wave_of : (ℕ → Value) → ℕ → ℕ → Wave
wave_of signal from to = record { before = value_before signal from; changes = changes_between signal from to }

-- ticks rise strictly from a tick on, and each value differs from the one before it
abbrev pub Alternates : Value → ℕ → List Change → Type 0
Alternates before tick [] = Unit {0}
Alternates before tick (change ∷ changes) =
    (tick ≤ change.tick) × (change.value ≢ before) × Alternates change.value (change.tick + 1) changes

abbrev pub IsWave : Wave → Type 0
IsWave wave = Alternates wave.before 0 wave.changes

-- whether two changes, or two waveforms, are the same
abbrev pub is_same_change : Change → Change → Bool
is_same_change = eq_of_both (on (λ (c : Change). c.tick) ◌==◌) (on (λ (c : Change). c.value) is_same)

abbrev pub is_same_wave : Wave → Wave → Bool
is_same_wave = eq_of_both (on (λ (w : Wave). w.before) is_same) (on (λ (w : Wave). w.changes) (pointwise is_same_change))

-- being the same is an equivalence
pub is_same_wave_equiv : IsEquivalence is_same_wave
is_same_wave_equiv = and_equiv (on_equiv (λ (w : Wave). w.before) is_same_equiv) (on_equiv (λ (w : Wave). w.changes) (lists_equiv changes))
  where
    changes : IsEquivalence is_same_change
    changes = and_equiv (on_equiv (λ (c : Change). c.tick) nat_eq_equiv) (on_equiv (λ (c : Change). c.value) is_same_equiv)
