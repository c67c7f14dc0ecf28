-- The lines of a dump's body: what each says, and its value as a number.
use Rattle.std.specs.Prelude.{◌≡◌, ℕ, zero, suc, ◌+◌, ◌*◌, ◌/◌, ◌%◌, ◌<◌, ◌==◌, if◌then◌else◌, refl}
use Rattle.std.proofs.Common.{arith}
use Rattle.logic3.specs.declared.value.Value.{Value}
use Rattle.logic3.specs.declared.value.Value.TheVariants.{Zero, One, Unknown}

-- a line: the net at a place takes the value at the tick
pub record LineView : Type 0 where
  pub tick : ℕ
  pub place : ℕ
  pub value : Value

-- a value as a number of two bits, and back
abbrev pub number_of : Value → ℕ
number_of Zero = 0
number_of One = 1
number_of Unknown = 2

abbrev pub value_of : ℕ → Value
value_of number = if number == 0 then Zero else if number == 1 then One else Unknown

-- a number of four times something and the number of a value is these two
pub same_change : (change : ℕ) → change % 4 < 3 → 4 * (change / 4) + number_of (value_of (change % 4)) ≡ change
same_change change known = let same = same_number (change % 4) known in omega arith
  where
    same_number : (number : ℕ) → number < 3 → number_of (value_of number) ≡ number
    same_number zero h = refl
    same_number (suc zero) h = refl
    same_number (suc (suc zero)) h = refl
    same_number (suc (suc (suc number))) h = absurd (omega arith)
