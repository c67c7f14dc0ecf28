-- What is read of a number and of a line as they are written.
use Rattle.std.proofs.Common.{◌≡◌, ℕ, ◌<◌, ◌^◌, ◌==◌, true, false, List, [], ◌∷◌, length, decimal, All, Some, refl, ap, ◌∙◌, one-add, arith}
use Rattle.std.specs.Str.{all_ascii_digits}
use Rattle.std.specs.Str.Parse.{AllDigits, digits_value}
use Rattle.std.proofs.lemmas.Bool.Decides.{nat_tests}
use Rattle.std.proofs.lemmas.Fmt.{decimal_is_IsNumeral}
use Rattle.std.proofs.lemmas.List.Elements.{All-head, All-tail}
use Rattle.std.proofs.lemmas.Str.Parse.{digit_from_value}
use Rattle.texts.specs.Text.{code_of, number_of}

-- the bytes of a number are digits
all_digits : (word : List ℕ) → AllDigits 10 word → all_ascii_digits word ≡ true
all_digits [] h = refl
all_digits (c ∷ word) h =
    let range = digit_from_value c h.0 in let rest = all_digits word h.1 in rw rest (grind (arith, nat_tests, range))

-- digits are read as their value
number_of-digits : (word : List ℕ) → 0 < length word → AllDigits 10 word → number_of word ≡ Some (digits_value 10 word)
number_of-digits [] some h = absurd (omega arith)
number_of-digits (c ∷ word) some h = rw (all_digits (c ∷ word) h) refl

-- a number is read back
pub number_of-decimal : (n : ℕ) → n < 2 ^ 64 → number_of (decimal n) ≡ Some n
number_of-decimal n small =
    let numeral = decimal_is_IsNumeral n small in
    number_of-digits (decimal n) numeral.0.0 numeral.0.1 ∙ ap Some numeral.1

-- a line has no comment where no byte begins one
pub code_of-no_hash : (line : List ℕ) → All (λ byte. (byte == 35) ≡ false) line → code_of line ≡ line
code_of-no_hash [] none = refl
code_of-no_hash (byte ∷ line) none =
    rw (All-head (λ byte. (byte == 35) ≡ false) byte line none, one-add)
    (ap (λ rest. byte ∷ rest) (code_of-no_hash line (All-tail (λ byte. (byte == 35) ≡ false) byte line none)))
