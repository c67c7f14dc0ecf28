-- The first difference of two signals.
use Rattle.std.proofs.Common.{◌≡◌, ◌≢◌, ℕ, ◌+◌, ◌-◌, ◌%◌, ◌==◌, ◌<◌, ◌≤◌, not, Bool, true, false, find, Option, None, Some, option_map, refl, ap, sym, subst, ◌∙◌, arith}
use Rattle.std.proofs.lemmas.Bool.{eq-eqb, eqb-true}
use Rattle.std.proofs.lemmas.Option.{same_Some}
use Rattle.logic3.specs.declared.value.Value.{Value}
use Rattle.logic3.specs.Value.{is_same, is_same_equiv}
use Rattle.logic3.proofs.CallerLemmas.{is_same-true}
use Rattle.wave_diff.specs.declared.difference.Difference.{Difference}
use Rattle.wave_diff.specs.Compared.{ComparedTicks, IsCompared, compared_ticks}
use Rattle.wave_diff.specs.Difference.{differ_at, difference_at, first_difference, IsFirstDifference, SameWhereCompared}
use Rattle.wave_diff.proofs.Found.{none_found, one_found, none_passes, found_passes, IsFirst}

-- whether a tick is a multiple
abbrev is_multiple : ComparedTicks → ℕ → Bool
is_multiple ticks tick = tick % ticks.every == 0

-- values that aren't told apart are the same, and the other way round
same_values : (first second : Value) → not (is_same first second) ≡ false → first ≡ second
same_values first second e = go (is_same first second) refl e
  where
    go : (same : Bool) → is_same first second ≡ same → not same ≡ false → first ≡ second
    go true is f = is_same-true first second is
    go false is f = absurd (cc)

not_apart : (first second : Value) → first ≡ second → not (is_same first second) ≡ false
not_apart first second same = rw (same, is_same_equiv.refl second) refl

pub apart_values : (first second : Value) → not (is_same first second) ≡ true → first ≢ second
apart_values first second e same = let f = not_apart first second same in let wrong = sym f ∙ e in cc

told_apart : (first second : Value) → first ≢ second → not (is_same first second) ≡ true
told_apart first second apart = go (is_same first second) refl
  where
    go : (same : Bool) → is_same first second ≡ same → not (is_same first second) ≡ true
    go true is = absurd (apart (is_same-true first second is))
    go false is = rw is refl

module _ (first second : ℕ → Value) (ticks : ComparedTicks) where
  abbrev count : ℕ
  count = ticks.to + 1 - ticks.from

  -- a compared tick lies within
  taken_at : (tick : ℕ) → ticks.from ≤ tick → tick < ticks.from + count → is_multiple ticks tick ≡ true → IsCompared ticks tick
  taken_at tick low high taken = record {
    late_enough = low;
    early_enough = omega arith;
    multiple = eqb-true (tick % ticks.every) 0 taken;
  }

  -- none, where they show the same
  pub first_difference-None : SameWhereCompared first second ticks → first_difference first second ticks ≡ None
  first_difference-None same =
      ap (option_map (difference_at first second))
      (none_found (is_multiple ticks) (differ_at first second) ticks.from count
      (λ at low high taken. not_apart (first at) (second at) (same at (taken_at at low high taken))))

  -- the first, where they show the same before it
  pub first_difference-Some : (found : Difference) → IsFirstDifference first second ticks found → first_difference first second ticks ≡ Some found
  first_difference-Some found is =
      let compared = is.compared in
      let apart : first found.tick ≢ second found.tick = λ same. is.apart (is.of_first ∙ same ∙ sym is.of_second) in
      let early = compared.early_enough in
      let place = one_found (is_multiple ticks) (differ_at first second) ticks.from count found.tick compared.late_enough (omega arith)
      (eq-eqb (found.tick % ticks.every) 0 compared.multiple) (told_apart (first found.tick) (second found.tick) apart)
      (λ at low high taken. not_apart (first at) (second at) (is.same_before at (taken_at at low (omega arith) taken) high)) in
      ap (option_map (difference_at first second)) place
      ∙ (λ i. Some (record { tick = found.tick; first = sym is.of_first i; second = sym is.of_second i }))

  -- where there is none they show the same
  pub SameWhereCompared-None : first_difference first second ticks ≡ None → SameWhereCompared first second ticks
  SameWhereCompared-None none = go (find (differ_at first second) (compared_ticks ticks)) refl
    where
      go : (place : Option ℕ) → find (differ_at first second) (compared_ticks ticks) ≡ place → SameWhereCompared first second ticks
      go None e at compared =
          let early = compared.early_enough in
          same_values (first at) (second at)
          (none_passes (is_multiple ticks) (differ_at first second) ticks.from count e at compared.late_enough (omega arith)
          (eq-eqb (at % ticks.every) 0 compared.multiple))
      go (Some tick) e at compared = let wrong = sym none ∙ ap (option_map (difference_at first second)) e in absurd (cc)

  -- what there is is the first
  pub IsFirstDifference-Some : (found : Difference) → first_difference first second ticks ≡ Some found → IsFirstDifference first second ticks found
  IsFirstDifference-Some found some = go (find (differ_at first second) (compared_ticks ticks)) refl
    where
      of_place : (tick : ℕ) → IsFirst (is_multiple ticks) (differ_at first second) ticks.from count tick →
          IsFirstDifference first second ticks (difference_at first second tick)
      of_place tick is = record {
        compared = taken_at tick is.low is.high is.taken;
        of_first = refl;
        of_second = refl;
        apart = apart_values (first tick) (second tick) is.passes;
        same_before = λ at compared before. same_values (first at) (second at)
            (is.none at compared.late_enough before (eq-eqb (at % ticks.every) 0 compared.multiple));
      }

      go : (place : Option ℕ) → find (differ_at first second) (compared_ticks ticks) ≡ place → IsFirstDifference first second ticks found
      go None e = let wrong = sym some ∙ ap (option_map (difference_at first second)) e in absurd (cc)
      go (Some tick) e =
          subst (IsFirstDifference first second ticks)
          (same_Some (difference_at first second tick) found (sym (ap (option_map (difference_at first second)) e) ∙ some))
          (of_place tick (found_passes (is_multiple ticks) (differ_at first second) ticks.from count tick e))

-- two pairs of signals that are the same up to the end have the same first difference
pub first_difference-same : (ticks : ComparedTicks) (first second other_first other_second : ℕ → Value) →
    ((tick : ℕ) → tick ≤ ticks.to → first tick ≡ other_first tick) → ((tick : ℕ) → tick ≤ ticks.to → second tick ≡ other_second tick) →
    first_difference first second ticks ≡ first_difference other_first other_second ticks
first_difference-same ticks first second other_first other_second same_first same_second = go (first_difference first second ticks) refl
  where
    go : (found : Option Difference) → first_difference first second ticks ≡ found →
        first_difference first second ticks ≡ first_difference other_first other_second ticks
    go None e =
        let same = SameWhereCompared-None first second ticks e in
        e ∙ sym (first_difference-None other_first other_second ticks
        (λ at compared. sym (same_first at compared.early_enough) ∙ same at compared ∙ same_second at compared.early_enough))
    go (Some found) e =
        let is = IsFirstDifference-Some first second ticks found e in
        let early = is.compared.early_enough in
        e ∙ sym (first_difference-Some other_first other_second ticks found (record {
          compared = is.compared;
          of_first = is.of_first ∙ same_first found.tick early;
          of_second = is.of_second ∙ same_second found.tick early;
          apart = is.apart;
          same_before = λ at compared before.
              sym (same_first at compared.early_enough) ∙ is.same_before at compared before ∙ same_second at compared.early_enough;
        }))
