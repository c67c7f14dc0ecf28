-- Values that are counted up to a limit.
use Rattle.std.proofs.Common.{◌≡◌, ◌∙◌, ap, sym, arith, ℕ, ◌+◌, ◌<◌, ◌≤◌, ◌⊎◌, inl, inr, List, ◌∷◌, min, nat_lt}
use Rattle.std.specs.List.{sum_by}
use Rattle.std.proofs.lemmas.Bool.{cases_lt, le-ltb, lt-ltb}
use Rattle.std.proofs.lemmas.List.Sums.{sum_by-cons}

-- one more count, and the rest
step : (most before one rest count : ℕ) → before ≤ most → count ≡ min most (before + one) → min most (count + rest) ≡ min most (before + (one + rest))
step most before one rest count few is = omega (arith, few, is)

pub counted-more : {A : Type 0} (count_of : A → ℕ) (x : A) (items rest : List A) (most before count total : ℕ) → before ≤ most →
    items ≡ x ∷ rest → count ≡ min most (before + count_of x) → min most (before + sum_by count_of items) ≡ total →
    min most (count + sum_by count_of rest) ≡ total
counted-more count_of x items rest most before count total few next is so_far =
    step most before (count_of x) (sum_by count_of rest) count few is
    ∙ ap (λ n. min most (before + n)) (sym (ap (sum_by count_of) next ∙ sum_by-cons count_of x rest))
    ∙ so_far

-- a number that is counted up to one past the limit is past it where the whole is
pub past_limit : (most nets buses first all : ℕ) → first ≡ min (most + 1) (0 + nets) → all ≡ min (most + 1) (first + buses) →
    nat_lt most all ≡ nat_lt most (nets + buses)
past_limit most nets buses first all a b = go (cases_lt most (nets + buses))
  where
    go : (most < nets + buses) ⊎ (nets + buses ≤ most) → nat_lt most all ≡ nat_lt most (nets + buses)
    go (inl past) = lt-ltb most all (omega (arith, past, a, b)) ∙ sym (lt-ltb most (nets + buses) past)
    go (inr within) = le-ltb most all (omega (arith, within, a, b)) ∙ sym (le-ltb most (nets + buses) within)
