-- The greatest of some numbers, and levels above pins.
use Rattle.std.proofs.Common.{◌≡◌, ℕ, suc, ◌+◌, ◌<◌, ◌≤◌, max, List, [], ◌∷◌, ◌++◌, length, get_or, take, map, refl, ap, ◌∙◌, arith}
use Rattle.std.proofs.lemmas.List.{take_more, map_more}
use Rattle.std.proofs.lemmas.List.Recursion.{max_push, max_bounds, max_least}
use Rattle.circuit_info.specs.Levels.{greatest}

pub greatest_push : (numbers : List ℕ) (n : ℕ) → greatest (numbers ++ n ∷ []) ≡ max (greatest numbers) n
greatest_push numbers n = max_push greatest (λ n. n) refl (λ x xs. refl) numbers n

pub greatest_bounds : (numbers : List ℕ) (i : ℕ) → i < length numbers → get_or numbers i 0 ≤ greatest numbers
greatest_bounds numbers i within = max_bounds greatest (λ n. n) refl (λ x xs. refl) numbers i 0 within

pub greatest_least : (numbers : List ℕ) (most : ℕ) → ((i : ℕ) → i < length numbers → get_or numbers i 0 ≤ most) → greatest numbers ≤ most
greatest_least numbers most all = max_least greatest (λ n. n) refl (λ x xs. refl) numbers 0 most all

-- functions that are alike at each number of a list
pub map_alike : (f g : ℕ → ℕ) (xs : List ℕ) → ((k : ℕ) → k < length xs → f (get_or xs k 0) ≡ g (get_or xs k 0)) → map f xs ≡ map g xs
map_alike f g [] alike = refl
map_alike f g (x ∷ xs) alike =
    ap (λ ys. f x ∷ ys) (map_alike f g xs (λ k within. alike (suc k) (omega (arith, within))))
    ∙ ap (λ y. y ∷ map g xs) (alike 0 (omega arith))

pub greatest_more : (numbers : List ℕ) (i : ℕ) → i < length numbers → greatest (take (i + 1) numbers) ≡ max (greatest (take i numbers)) (get_or numbers i 0)
greatest_more numbers i within = ap greatest (take_more numbers i 0 within) ∙ greatest_push (take i numbers) (get_or numbers i 0)

pub greatest_map_more : (f : ℕ → ℕ) (xs : List ℕ) (i : ℕ) → i < length xs →
    greatest (map f (take (i + 1) xs)) ≡ max (greatest (map f (take i xs))) (f (get_or xs i 0))
greatest_map_more f xs i within = ap greatest (map_more f xs i 0 within) ∙ greatest_push (map f (take i xs)) (f (get_or xs i 0))
