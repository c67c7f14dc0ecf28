-- A relation that holds of each element of a list and each later one, and the last element.
use Rattle.std.proofs.Common.{ℕ, ◌<◌, List, [], ◌∷◌, ◌++◌, length, get_or, AllPairs, refl, subst, arith}
use Rattle.std.proofs.lemmas.List.{length_push, get_or_push, get_or_append_left}

-- it holds without the last element
pub AllPairs-front : {A : Type 0} (R : A → A → Type 0) (xs : List A) (y : A) → AllPairs R (xs ++ y ∷ []) → AllPairs R xs
AllPairs-front R xs y all i j d before within =
    subst (λ x. R x (get_or xs j d)) (get_or_append_left xs (y ∷ []) d i (omega (arith, before, within)))
    (subst (R (get_or (xs ++ y ∷ []) i d)) (get_or_append_left xs (y ∷ []) d j within)
    (all i j d before (omega (arith, within, length_push xs y))))

-- and it holds of each element before the last and the last one
pub AllPairs-last : {A : Type 0} (R : A → A → Type 0) (xs : List A) (y : A) → AllPairs R (xs ++ y ∷ []) →
    (k : ℕ) (d : A) → k < length xs → R (get_or xs k d) y
AllPairs-last R xs y all k d within =
    subst (λ x. R x y) (get_or_append_left xs (y ∷ []) d k within)
    (subst (R (get_or (xs ++ y ∷ []) k d)) (get_or_push xs y d (length xs) refl)
    (all k (length xs) d within (omega (arith, length_push xs y))))
