-- Waves read back.
use Rattle.std.proofs.Common.{◌≡◌, ◌∙◌, refl, sym, ap, arith, ℕ, zero, suc, ◌+◌, ◌-◌, ◌==◌, ◌<◌, Bool, true, false, cond, ◌&&◌, not, map, take, fold, Option, None, Some, add-one, List}
use Rattle.std.specs.Prelude.{IsAscii}
use Rattle.std.proofs.lemmas.Str.{encodes-IsAscii}
use Rattle.std.specs.List.{range_with_len}
use Rattle.logic3.specs.declared.value.Value.{Value}
use Rattle.logic3.specs.declared.value.Value.TheVariants.{Zero, One, Unknown}
use Rattle.logic3.proofs.CallerLemmas.{is_same-true}
use Rattle.serde_json.specs.Data.{string}
use Rattle.timing_diagram.specs.Bus.{shows_same}
use Rattle.timing_diagram.specs.Columns.{Ticks, column_count, shown_tick}
use Rattle.timing_diagram.specs.Marks.{shows_value}
use Rattle.timing_diagram.specs.Read.{column_value, value_of_wave, wave_value}
use Rattle.timing_diagram.specs.WaveJson.{repeats, text_data, value_character, wave_character}

both : (a b : Bool) → (a && b) ≡ true → (a ≡ true) × (b ≡ true)
both true true e = (refl, refl)
both true false e = absurd (cc)
both false b e = absurd (cc)

positive : (n : ℕ) → not (n == 0) ≡ true → 0 < n
positive zero e = absurd (cc)
positive (suc n) e = omega arith

-- a value's character shows it
value_back : (before : Option Value) (value : Value) → value_of_wave before (value_character value) ≡ Some value
value_back before Zero = refl
value_back before One = refl
value_back before Unknown = refl

module _ (signal : ℕ → Value) (ticks : Ticks) where
  -- one more character, after those that show the value of the column before
  one_more : (column : ℕ) (before : Option Value) → (0 < column → before ≡ column_value signal ticks (column - 1)) →
      value_of_wave before (wave_character signal ticks column) ≡ column_value signal ticks column
  one_more column before was = go (repeats signal ticks column) refl (shows_value signal ticks column) refl
    where
      value : ℕ → Value
      value at = signal (shown_tick ticks at)

      again : (shows : Bool) → repeats signal ticks column ≡ true → shows_value signal ticks column ≡ shows → before ≡ cond shows (Some (value column)) None
      again shows repeated here =
          let parts = both (not (column == 0)) (shows_same ticks (column - 1) column signal) repeated in
          let first = both (shows_value signal ticks (column - 1)) _ parts.1 in
          let second = both (shows_value signal ticks column) _ first.1 in
          let same = is_same-true (value (column - 1)) (value column) second.1 in
          was (positive column parts.0)
          ∙ ap (λ b. cond b (Some (value (column - 1))) None) first.0
          ∙ ap Some same
          ∙ ap (λ b. cond b (Some (value column)) None) (sym second.0 ∙ here)

      go : (repeated : Bool) → repeats signal ticks column ≡ repeated → (shows : Bool) → shows_value signal ticks column ≡ shows →
          value_of_wave before (cond repeated 46 (cond shows (value_character (value column)) 124)) ≡ cond shows (Some (value column)) None
      go true is shows here = again shows is here
      go false is true here = value_back before (value column)
      go false is false here = refl

  from_there : (from count k : ℕ) (before : Option Value) → k < count → (0 < from → before ≡ column_value signal ticks (from - 1)) →
      fold value_of_wave before (take (suc k) (map (wave_character signal ticks) (range_with_len from count))) ≡ column_value signal ticks (from + k)
  from_there from zero k before inside was = absurd (omega arith)
  from_there from (suc count) zero before inside was =
      let here : from ≡ from + zero = omega arith in one_more from before was ∙ ap (column_value signal ticks) here
  from_there from (suc count) (suc k) before inside was =
      let along : from + 1 + k ≡ from + suc k = omega arith in
      let back : from ≡ from + 1 - 1 = omega arith in
      from_there (from + 1) count k (value_of_wave before (wave_character signal ticks from)) (omega arith)
      (λ some. one_more from before was ∙ ap (column_value signal ticks) back)
      ∙ ap (column_value signal ticks) along

  pub wave_back : (column : ℕ) → column < column_count ticks → wave_value signal ticks column ≡ column_value signal ticks column
  wave_back column inside =
      let here : 0 + column ≡ column = omega arith in
      rw add-one (from_there 0 (column_count ticks) column None inside (λ some. absurd (omega (arith, some)))
      ∙ ap (column_value signal ticks) here)

-- a text of ASCII is what it is written as
pub ascii_kept : (characters : List ℕ) → IsAscii characters → text_data characters ≡ string characters
ascii_kept characters ascii = ap string (encodes-IsAscii characters ascii)
