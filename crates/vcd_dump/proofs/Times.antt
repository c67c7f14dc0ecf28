-- The tokens of times, and what they say.
use Rattle.std.proofs.Common.{◌≡◌, ℕ, ◌<◌, ◌^◌, nat_lt, true, false, List, [], ◌∷◌, ◌++◌, Some, refl, ap, arith, codes}
use Rattle.std.specs.Prelude.{decimal, is_some}
use Rattle.std.specs.Option.{option_map_or}
use Rattle.std.specs.List.{AllByRecursion}
use Rattle.std.specs.Str.Parse.{AllDigits}
use Rattle.std.proofs.lemmas.Bool.Decides.{nat_tests}
use Rattle.std.proofs.lemmas.Str.Parse.{digit_from_value}
use Rattle.std.proofs.lemmas.Fmt.{decimal_is_IsNumeral}
use Rattle.texts.proofs.CallerLemmas.{number_of-decimal}
use Rattle.vcd_dump.specs.Shown.{is_time, is_time_above, time_of}
use Rattle.vcd_dump.proofs.Tokens.{IsToken, IsToken-from_bytes, IsWordByte}

-- the token of a time
abbrev pub time_token : ℕ → List ℕ
time_token tick = codes "#" ++ decimal tick

-- a time is read back
time_of-time_token : (at : ℕ) → at < 2 ^ 64 → time_of (time_token at) ≡ Some at
time_of-time_token at small = number_of-decimal at small

-- a time is one
pub is_time-time_token : (at : ℕ) → at < 2 ^ 64 → is_time (time_token at) ≡ true
is_time-time_token at small = ap (λ time. is_some time) (time_of-time_token at small)

-- a time is above the ticks before it
pub is_time_above-time_token : (tick at : ℕ) → at < 2 ^ 64 → is_time_above tick (time_token at) ≡ nat_lt tick at
is_time_above-time_token tick at small = ap (λ time. option_map_or (nat_lt tick) time false) (time_of-time_token at small)

-- digits are bytes of a word
digits-word_bytes : (word : List ℕ) → AllDigits 10 word → AllByRecursion IsWordByte word
digits-word_bytes [] h = tt
digits-word_bytes (c ∷ word) h =
    let range = digit_from_value c h.0 in (grind (arith, nat_tests, range), digits-word_bytes word h.1)

-- a time is one token
pub IsToken-time_token : (at : ℕ) → at < 2 ^ 64 → IsToken (time_token at)
IsToken-time_token at small =
    IsToken-from_bytes 35 (decimal at) (refl, digits-word_bytes (decimal at) (decimal_is_IsNumeral at small).0.1)
