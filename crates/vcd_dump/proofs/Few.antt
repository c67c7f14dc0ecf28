-- No more nets are shown than there are.
use Rattle.std.proofs.Common.{ℕ, ◌≢◌, ◌<◌, ◌≤◌, List, length, All, AllPairs, Contains, subst}
use Rattle.std.proofs.lemmas.Bool.{eqb-true}
use Rattle.std.proofs.lemmas.Bool.Decides.{Decides-eqb}
use Rattle.std.proofs.lemmas.Map.Made.{IsDistinct-from_AllPairs}
use Rattle.std.proofs.lemmas.Map.Steps.{length-le_from_distinct_below}
use Rattle.std.proofs.lemmas.Map.Views.{Contains-from_any}

-- nets below a number, each once, are no more
pub few_below : (n : ℕ) (nets : List ℕ) → All (λ net. net < n) nets → AllPairs (λ (earlier later : ℕ). earlier ≢ later) nets → length nets ≤ n
few_below n nets below apart =
    length-le_from_distinct_below nets n (IsDistinct-from_AllPairs Decides-eqb nets apart) (λ q found. there q (Contains-from_any eqb-true q nets found))
  where
    there : (q : ℕ) → Contains nets q → q < n
    there q (k, inside, is) = subst (λ net. net < n) is (below k q inside)
