-- The words of a line of a deck.
use Rattle.std.proofs.Common.{◌≡◌, ℕ, true, false, List, [], ◌∷◌, None, refl, bytes_eq, codes}
use Rattle.texts.specs.Text.{is_empty, number_of}
use Rattle.prepared_runs.specs.Deck.{line_words, horizon_in}

-- two words, and maybe more
module _ (line mark number : List ℕ) where
  pub horizon_in-two : (more : List (List ℕ)) → line_words line ≡ mark ∷ number ∷ more → is_empty more ≡ true → bytes_eq mark (codes "%nullsim") ≡ true →
      horizon_in line ≡ number_of number
  horizon_in-two [] words none same = rw (words, same) refl
  horizon_in-two (word ∷ more) words none same = cc

  pub horizon_in-more : (more : List (List ℕ)) → line_words line ≡ mark ∷ number ∷ more → is_empty more ≡ false → horizon_in line ≡ None
  horizon_in-more [] words some = cc
  horizon_in-more (word ∷ more) words some = rw words refl

  pub horizon_in-other : (more : List (List ℕ)) → line_words line ≡ mark ∷ number ∷ more → bytes_eq mark (codes "%nullsim") ≡ false → horizon_in line ≡ None
  horizon_in-other [] words other = rw (words, other) refl
  horizon_in-other (word ∷ more) words other = rw words refl
