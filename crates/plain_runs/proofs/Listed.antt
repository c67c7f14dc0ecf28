-- The numbers that pass a test, rising.
use Rattle.std.proofs.Common.{◌≡◌, ℕ, zero, suc, ◌<◌, ◌≤◌, ◌⊎◌, inl, inr, Bool, true, cond, [], ◌∷◌, ◌++◌, filter, All, Contains, sym, ap, subst, ◌∙◌, arith, add-one}
use Rattle.std.specs.List.{range_with_len}
use Rattle.std.proofs.lemmas.Bool.{cases_lt}
use Rattle.std.proofs.lemmas.List.Elements.{All-contains, All-filter, Contains-append_left, Contains-append_right, filter_passes}
use Rattle.std.proofs.lemmas.List.FromFn.{get_or-range_with_len, length-range_with_len}
use Rattle.design.proofs.CallerLemmas.{passing_more}

module _ (p : ℕ → Bool) where
  -- each is below their bound, and passes
  pub All-listed : (n : ℕ) → All (λ net. net < n) (filter p (range_with_len 0 n))
  All-listed n = All-filter p (λ net. net < n) (range_with_len 0 n) (λ k d inside.
      let below : k < n = omega (arith, length-range_with_len 0 n) in
      omega (arith, get_or-range_with_len 0 n k d below))

  pub passes_listed : (n number : ℕ) → Contains (filter p (range_with_len 0 n)) number → p number ≡ true
  passes_listed n number inside =
      All-contains (λ x. p x ≡ true) (filter p (range_with_len 0 n)) number (filter_passes p (range_with_len 0 n)) inside

  -- and each such number is listed
  pub Contains-listed : (n number : ℕ) → number < n → p number ≡ true → Contains (filter p (range_with_len 0 n)) number
  Contains-listed zero number below passes = absurd (omega arith)
  Contains-listed (suc n) number below passes =
      subst (λ those. Contains those number) (sym (ap (λ m. filter p (range_with_len 0 m)) (sym (add-one n)) ∙ passing_more p n))
      (go (cases_lt number n) (λ less. Contains-listed n number less passes))
    where
      go : (number < n) ⊎ (n ≤ number) → (number < n → Contains (filter p (range_with_len 0 n)) number) →
          Contains (filter p (range_with_len 0 n) ++ cond (p n) (n ∷ []) []) number
      go (inl less) earlier = Contains-append_left (filter p (range_with_len 0 n)) (cond (p n) (n ∷ []) []) number (earlier less)
      go (inr more) earlier =
          let is : number ≡ n = omega arith in
          Contains-append_right (filter p (range_with_len 0 n)) (cond (p n) (n ∷ []) []) number
          (subst (λ passes. Contains (cond passes (n ∷ []) []) number) (sym (ap p (sym is) ∙ passes)) (0, omega arith, sym is))
