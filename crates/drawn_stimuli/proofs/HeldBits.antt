-- Inputs that hold a number show its bits.
use Rattle.std.proofs.Common.{◌≡◌, refl, ap, ◌∙◌, ℕ, zero, suc, ◌+◌, ◌-◌, ◌/◌, ◌%◌, ◌^◌, ◌<◌, ◌≤◌, List, [], ◌∷◌, length, arith}
use Rattle.std.proofs.Math.Nat.{mod-lt}
use Rattle.std.proofs.Math.Pow.{mod-mod-pow}
use Rattle.std.proofs.lemmas.Nat.{div-mul-add, mod-pow-add, pow_pos}
use Rattle.drawn_stimuli.specs.declared.drive.Drive.TheVariants.{HoldBits}
use Rattle.drawn_stimuli.specs.Signals.{lowest_bit}
use Rattle.drawn_stimuli.specs.Given.{bit_values, parts_from, values_at}

-- a low bit is one of the low bits
low_bit : (n count more : ℕ) → n % 2 ^ (more + 1 + count) / 2 ^ count % 2 ≡ n / 2 ^ count % 2
low_bit n count more =
    ap (λ m. m / 2 ^ count % 2) (mod-pow-add n (more + 1) count)
    ∙ ap (λ m. m % 2) (div-mul-add (n / 2 ^ count % 2 ^ (more + 1)) (2 ^ count) (n % 2 ^ count) (mod-lt n (pow_pos count)))
    ∙ mod-mod-pow (n / 2 ^ count) more 1

low_bit-of : (n count most : ℕ) → count < most → n % 2 ^ most / 2 ^ count % 2 ≡ n / 2 ^ count % 2
low_bit-of n count most below =
    let all : most ≡ most - count - 1 + 1 + count = omega (arith, below) in
    ap (λ m. n % 2 ^ m / 2 ^ count % 2) all ∙ low_bit n count (most - count - 1)

lowest-same : (ones unknown one other : ℕ) → ones % 2 ≡ one % 2 → unknown % 2 ≡ other % 2 → lowest_bit ones unknown ≡ lowest_bit one other
lowest-same ones unknown one other a b = rw (a, b) refl

low_values : (ones unknown most count : ℕ) → count ≤ most → bit_values (ones % 2 ^ most) (unknown % 2 ^ most) count ≡ bit_values ones unknown count
low_values ones unknown most zero below = refl
low_values ones unknown most (suc count) below =
    let first = lowest-same (ones % 2 ^ most / 2 ^ count) (unknown % 2 ^ most / 2 ^ count) (ones / 2 ^ count) (unknown / 2 ^ count)
    (low_bit-of ones count most (omega (arith, below))) (low_bit-of unknown count most (omega (arith, below))) in
    ap (λ value. value ∷ bit_values (ones % 2 ^ most) (unknown % 2 ^ most) count) first
    ∙ ap (λ values. lowest_bit (ones / 2 ^ count) (unknown / 2 ^ count) ∷ values) (low_values ones unknown most count (omega (arith, below)))

pub held_values : (place ones unknown tick : ℕ) (names : List (List ℕ)) →
    values_at tick (parts_from place (HoldBits ones unknown) names) ≡ bit_values ones unknown (length names)
held_values place ones unknown tick [] = refl
held_values place ones unknown tick (name ∷ names) =
    let count = length names in
    ap (λ values. lowest_bit (ones / 2 ^ count) (unknown / 2 ^ count) ∷ values)
    (held_values place (ones % 2 ^ count) (unknown % 2 ^ count) tick names ∙ low_values ones unknown count count (omega arith))
