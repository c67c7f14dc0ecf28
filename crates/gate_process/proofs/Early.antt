-- The changes that come first of a list whose ticks rise are those before a tick.
use Rattle.std.proofs.Common.{◌≡◌, ℕ, zero, suc, ◌+◌, ◌-◌, ◌<◌, ◌≤◌, nat_lt, List, length, Some, slice_get, get_or, ap, subst, arith, ltb-false}
use Rattle.std.proofs.lemmas.Bool.{le-ltb}
use Rattle.std.proofs.lemmas.List.Sums.{prefix_len-le-length, prefix_len_passes, prefix_len_stops}
use Rattle.std.proofs.lemmas.Option.{get_or_from_slice_get}
use Rattle.logic3.specs.declared.change.Change.{Change}
use Rattle.logic3.specs.Rising.{TicksRise}
use Rattle.logic3.proofs.CallerLemmas.{IsCut, due_below}

-- behind one that isn't before the tick none is
late_from : (changes : List Change) (tick at more : ℕ) (d : Change) → TicksRise changes → at + more < length changes →
    tick ≤ (get_or changes at d).tick → tick ≤ (get_or changes (at + more) d).tick
late_from changes tick at zero d rise inside late =
    let here : at ≡ at + 0 = omega arith in subst (λ n. tick ≤ (get_or changes n d).tick) here late
late_from changes tick at (suc more) d rise inside late =
    let later = rise at (at + suc more) d (omega arith) inside in omega (arith, later, late)

-- they and no others are before the tick
pub early_cut : (changes : List Change) (tick : ℕ) → TicksRise changes → IsCut tick changes (due_below tick changes)
early_cut changes tick rise = (
  (λ k d low high. prefix_len_passes (λ (change : Change). nat_lt change.tick tick) changes k d high),
  λ k d low high.
      let at = due_below tick changes in
      let stop : at < length changes = omega arith in
      let first = ltb-false _ _ (prefix_len_stops (λ (change : Change). nat_lt change.tick tick) changes d stop) in
      let same : at + (k - at) ≡ k = omega arith in
      let late = late_from changes tick at (k - at) d rise (omega arith) first in
      le-ltb (get_or changes k d).tick tick (subst (λ n. tick ≤ (get_or changes n d).tick) same late),
)

-- all are before the tick where the last is
pub all_early : (changes : List Change) (tick : ℕ) (last : Change) → TicksRise changes → slice_get changes (length changes - 1) ≡ Some last →
    last.tick < tick → length changes ≡ due_below tick changes
all_early changes tick last rise is early =
    let within = prefix_len-le-length (λ (change : Change). nat_lt change.tick tick) changes in
    let all : due_below tick changes < length changes → ⊥ = λ stop.
    let first = ltb-false _ _ (prefix_len_stops (λ (change : Change). nat_lt change.tick tick) changes last stop) in
    let same : due_below tick changes + (length changes - 1 - due_below tick changes) ≡ length changes - 1 = omega arith in
    let late = late_from changes tick (due_below tick changes) (length changes - 1 - due_below tick changes) last rise (omega arith) first in
    let at = subst (λ n. tick ≤ (get_or changes n last).tick) same late in
    let here = get_or_from_slice_get changes (length changes - 1) last last is in
    omega (arith, at, ap (λ (change : Change). change.tick) here, early) in
    omega (arith, within, all)
