-- Pieces of a text that were added one by one.
use Rattle.std.proofs.Common.{◌≡◌, ◌∙◌, sym, ap, arith, ℕ, suc, ◌+◌, ◌-◌, ◌<◌, ◌≤◌, List, [], ◌∷◌, ◌++◌, map, flat_map, append-nil, append_assoc}
use Rattle.std.specs.List.{range_with_len}

pub joined₃ : (l l₁ l₂ l₃ a b c : List ℕ) → l₁ ≡ l ++ a → l₂ ≡ l₁ ++ b → l₃ ≡ l₂ ++ c → l₃ ≡ l ++ (a ++ b ++ c)
joined₃ l l₁ l₂ l₃ a b c p q r = rw (r, q, p) (simp append_assoc)

pub joined₄ : (l l₁ l₂ l₃ l₄ a b c d : List ℕ) → l₁ ≡ l ++ a → l₂ ≡ l₁ ++ b → l₃ ≡ l₂ ++ c → l₄ ≡ l₃ ++ d → l₄ ≡ l ++ (a ++ b ++ c ++ d)
joined₄ l l₁ l₂ l₃ l₄ a b c d p q r s = rw (s, r, q, p) (simp append_assoc)

pub joined₅ : (l l₁ l₂ l₃ l₄ l₅ a b c d e : List ℕ) → l₁ ≡ l ++ a → l₂ ≡ l₁ ++ b → l₃ ≡ l₂ ++ c → l₄ ≡ l₃ ++ d → l₅ ≡ l₄ ++ e →
    l₅ ≡ l ++ (a ++ b ++ c ++ d ++ e)
joined₅ l l₁ l₂ l₃ l₄ l₅ a b c d e p q r s t = rw (t, s, r, q, p) (simp append_assoc)

pub joined₈ : (l l₁ l₂ l₃ l₄ l₅ l₆ l₇ l₈ a b c d e f g h : List ℕ) → l₁ ≡ l ++ a → l₂ ≡ l₁ ++ b → l₃ ≡ l₂ ++ c → l₄ ≡ l₃ ++ d → l₅ ≡ l₄ ++ e →
    l₆ ≡ l₅ ++ f → l₇ ≡ l₆ ++ g → l₈ ≡ l₇ ++ h → l₈ ≡ l ++ (a ++ b ++ c ++ d ++ e ++ f ++ g ++ h)
joined₈ l l₁ l₂ l₃ l₄ l₅ l₆ l₇ l₈ a b c d e f g h p q r s t u v w = rw (w, v, u, t, s, r, q, p) (simp append_assoc)

pub regrouped₅ : (l a b c d e : List ℕ) → l ++ a ++ b ++ c ++ d ++ e ≡ l ++ (a ++ b ++ c ++ d ++ e)
regrouped₅ l a b c d e = simp append_assoc

-- what is written of the numbers from one up to but not including another
abbrev pub from_on : {A : Type 0} → (ℕ → List A) → ℕ → ℕ → List A
from_on text at end = flat_map text (range_with_len at (end - at))

-- one more of them
pub from_on-more : {A : Type 0} (text : ℕ → List A) (at end : ℕ) (xs ys : List A) → at < end → ys ≡ xs ++ text at →
    ys ++ from_on text (at + 1) end ≡ xs ++ from_on text at end
from_on-more text at end xs ys inside is =
    let one : end - at ≡ suc (end - (at + 1)) = omega arith in
    rw (is, one) (append_assoc xs (text at) (from_on text (at + 1) end))

pub map-more : {A : Type 0} (f : ℕ → A) (at end : ℕ) (xs ys : List A) → at < end → ys ≡ xs ++ (f at ∷ []) →
    ys ++ map f (range_with_len (at + 1) (end - (at + 1))) ≡ xs ++ map f (range_with_len at (end - at))
map-more f at end xs ys inside is =
    let one : end - at ≡ suc (end - (at + 1)) = omega arith in
    rw (is, one) (append_assoc xs (f at ∷ []) (map f (range_with_len (at + 1) (end - (at + 1)))))

-- where none is left, those so far are all
pub from_on-end : {A : Type 0} (text : ℕ → List A) (at end : ℕ) (xs ys : List A) → end ≤ at → xs ++ from_on text at end ≡ ys → xs ≡ ys
from_on-end text at end xs ys past so_far =
    let none : end - at ≡ 0 = omega (arith, past) in
    sym (append-nil xs) ∙ ap (λ n. xs ++ flat_map text (range_with_len at n)) (sym none) ∙ so_far
