-- The bits of a bus, one after the other.
use Rattle.std.proofs.Common.{◌≡◌, refl, ap, ◌∙◌, arith, ℕ, suc, ◌+◌, ◌-◌, ◌<◌, ◌≤◌, Bool, true, false, List, length, map, take, get_or}
use Rattle.std.specs.List.{list_all, position_or_len, range_with_len}
use Rattle.std.proofs.lemmas.List.{take_more, map-append, length-map, get_or-map}
use Rattle.std.proofs.lemmas.List.Folds.{list_all-append, list_all_at}
use Rattle.logic3.specs.declared.value.Value.{Value}
use Rattle.logic3.specs.Wave.{Wave, value_at}

module _ (passes : (ℕ → Value) → Bool) (bits : List Wave) (i : ℕ) (d : Wave) (inside : i < length bits) where
  -- one more passes
  pub all_more : list_all passes (map value_at (take i bits)) ≡ true → passes (value_at (get_or bits i d)) ≡ true →
      list_all passes (map value_at (take (i + 1) bits)) ≡ true
  all_more before here =
      ap (λ ws. list_all passes (map value_at ws)) (take_more bits i d inside)
      ∙ ap (list_all passes) (map-append value_at (take i bits) _)
      ∙ list_all-append passes (map value_at (take i bits)) _
      ∙ rw (before, here) refl

  -- one fails, and so not all pass
  pub some_fails : passes (value_at (get_or bits i d)) ≡ false → list_all passes (map value_at bits) ≡ false
  some_fails fails =
      list_all_at passes (map value_at bits) i (value_at d) (omega (arith, length-map bits value_at))
      (ap passes (get_or-map value_at bits i d (value_at d) inside) ∙ fails)

-- ---- places

-- a number at which a test fails isn't the first at which it passes
pub passed_over : (test : ℕ → Bool) (at end : ℕ) → at < end → test at ≡ false →
    position_or_len test (range_with_len at (end - at)) ≡ 1 + position_or_len test (range_with_len (at + 1) (end - (at + 1)))
passed_over test at end inside fails = let one : end - at ≡ suc (end - (at + 1)) = omega arith in rw (one, fails) refl

pub one_on : (at from rest : ℕ) → from ≤ at → at + 1 - from + rest ≡ at - from + (1 + rest)
one_on at from rest behind = omega arith
