-- The numbers from 1 of the places that pass a test.
use Rattle.std.proofs.Common.{◌≡◌, ℕ, ◌+◌, Bool, true, false, List, [], ◌∷◌, ◌++◌, filter, map, refl, sym, ap, ◌∙◌}
use Rattle.std.specs.List.{range_with_len}
use Rattle.std.proofs.lemmas.List.{map-append}
use Rattle.design.proofs.CallerLemmas.{listed_more, listed_same}

module _ (p : ℕ → Bool) (n : ℕ) (numbers : List ℕ) (so_far : numbers ≡ map (λ place. place + 1) (filter p (range_with_len 0 n))) where
  pub numbered_more : p n ≡ true → numbers ++ (n + 1) ∷ [] ≡ map (λ place. place + 1) (filter p (range_with_len 0 (n + 1)))
  numbered_more passes =
      ap (λ those. those ++ (n + 1) ∷ []) so_far
      ∙ sym (map-append (λ (place : ℕ). place + 1) (filter p (range_with_len 0 n)) (n ∷ []))
      ∙ ap (map (λ place. place + 1)) (listed_more p n [] (filter p (range_with_len 0 n)) passes refl)

  pub numbered_same : p n ≡ false → numbers ≡ map (λ place. place + 1) (filter p (range_with_len 0 (n + 1)))
  numbered_same fails =
      so_far ∙ ap (map (λ place. place + 1)) (listed_same p n [] (filter p (range_with_len 0 n)) fails refl)
