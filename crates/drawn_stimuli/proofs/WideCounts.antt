-- A number of 64 bits has none from the 64th on.
use Rattle.std.proofs.Common.{◌≡◌, ℕ, ◌<◌, ◌≤◌, ◌^◌, ◌/◌, ◌%◌, arith, sym}
use Rattle.std.proofs.Math.Nat.{div-eq_of_lt, mod-eq_of_lt, pow-le-pow_right}

few_bits : (bits count : ℕ) → bits < 2 ^ 64 → 64 ≤ count → bits < 2 ^ count
few_bits bits count few wide =
    let most : 2 ^ 64 ≤ 2 ^ count = pow-le-pow_right {n = 2} (omega arith) {i = 64} {j = count} wide in
    omega (arith, few, most)

pub none_high : (bits count : ℕ) → bits < 2 ^ 64 → 64 ≤ count → 0 ≡ bits / 2 ^ count
none_high bits count few wide = sym (div-eq_of_lt (few_bits bits count few wide))

pub all_low : (bits count : ℕ) → bits < 2 ^ 64 → 64 ≤ count → bits ≡ bits % 2 ^ count
all_low bits count few wide = sym (mod-eq_of_lt (few_bits bits count few wide))
