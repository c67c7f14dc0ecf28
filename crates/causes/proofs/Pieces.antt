-- Pieces of a text that were added one by one.
use Rattle.std.proofs.Common.{◌≡◌, ℕ, ◌≤◌, List, ◌++◌, length, drop, flat_map, append_assoc, append-nil, ap, ◌∙◌}
use Rattle.std.proofs.lemmas.List.{drop_all}

pub joined₂ : (l l₁ l₂ a b : List ℕ) → l₁ ≡ l ++ a → l₂ ≡ l₁ ++ b → l₂ ≡ l ++ (a ++ b)
joined₂ l l₁ l₂ a b p q = rw (q, p) (simp append_assoc)

pub joined₅ : (l l₁ l₂ l₃ l₄ l₅ a b c d e : List ℕ) → l₁ ≡ l ++ a → l₂ ≡ l₁ ++ b → l₃ ≡ l₂ ++ c → l₄ ≡ l₃ ++ d → l₅ ≡ l₄ ++ e →
    l₅ ≡ l ++ (a ++ b ++ c ++ d ++ e)
joined₅ l l₁ l₂ l₃ l₄ l₅ a b c d e p q r s t = rw (t, s, r, q, p) (simp append_assoc)

pub joined₆ : (l l₁ l₂ l₃ l₄ l₅ l₆ a b c d e f : List ℕ) → l₁ ≡ l ++ a → l₂ ≡ l₁ ++ b → l₃ ≡ l₂ ++ c → l₄ ≡ l₃ ++ d → l₅ ≡ l₄ ++ e →
    l₆ ≡ l₅ ++ f → l₆ ≡ l ++ (a ++ b ++ c ++ d ++ e ++ f)
joined₆ l l₁ l₂ l₃ l₄ l₅ l₆ a b c d e f p q r s t u = rw (u, t, s, r, q, p) (simp append_assoc)

-- nothing is left behind the last
pub flat_map-none : {A : Type 0} (f : A → List ℕ) (k : ℕ) (xs : List A) (l : List ℕ) → length xs ≤ k → l ++ flat_map f (drop k xs) ≡ l
flat_map-none f k xs l past = ap (λ rest. l ++ flat_map f rest) (drop_all k xs past) ∙ append-nil l
