-- What a word of digits is worth, digit by digit.
use Rattle.std.proofs.Common.{◌≡◌, ℕ, ◌+◌, ◌-◌, ◌*◌, ◌^◌, ◌<◌, ◌&&◌, min, true, false, List, [], ◌∷◌, length, get_or, take, None, refl, ap, arith}
use Rattle.std.specs.Char.{is_ascii_digit, digit_value}
use Rattle.std.specs.List.{list_all}
use Rattle.std.specs.Str.{all_ascii_digits}
use Rattle.std.specs.Str.Parse.{digits_value}
use Rattle.std.proofs.lemmas.Bool.Decides.{nat_tests}
use Rattle.std.proofs.lemmas.Int.Digits.{digits_value_more}
use Rattle.std.proofs.lemmas.List.Folds.{list_all_at}
use Rattle.texts.specs.Text.{number_of}

-- the test for digits, as `list_all`, which the loop's lemmas speak of
all_ascii_digits-list_all : (word : List ℕ) → all_ascii_digits word ≡ list_all is_ascii_digit word
all_ascii_digits-list_all [] = refl
all_ascii_digits-list_all (byte ∷ word) = ap (λ rest. is_ascii_digit byte && rest) (all_ascii_digits-list_all word)

-- a word with a byte that is no digit is no number
pub number_of-stops : (word : List ℕ) (i : ℕ) → i < length word → is_ascii_digit (get_or word i 0) ≡ false → number_of word ≡ None
number_of-stops [] i inside odd = refl
number_of-stops (byte ∷ word) i inside odd =
    rw (all_ascii_digits-list_all (byte ∷ word), list_all_at is_ascii_digit (byte ∷ word) i 0 inside odd) refl

-- one more digit, where the value stops at the largest `u64`
pub digits_value-saturates : (word : List ℕ) (i value : ℕ) → i < length word → value ≡ min (2 ^ 64 - 1) (digits_value 10 (take i word)) →
    is_ascii_digit (get_or word i 0) ≡ true →
    min (2 ^ 64 - 1) (min (2 ^ 64 - 1) (value * 10) + (get_or word i 0 - 48)) ≡ min (2 ^ 64 - 1) (digits_value 10 (take (i + 1) word))
digits_value-saturates word i value inside so_far digit =
    let worth : digit_value (get_or word i 0) ≡ get_or word i 0 - 48 = grind (arith, nat_tests) in
    omega (arith, digits_value_more 10 word i inside)
