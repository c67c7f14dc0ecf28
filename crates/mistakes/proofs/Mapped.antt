-- Lists that are filtered or searched by what their items look like.
use Rattle.std.proofs.Common.{◌≡◌, Bool, true, false, cond, ◌||◌, List, [], ◌∷◌, map, refl, ap}
use Rattle.std.specs.List.{filter, list_any}

pub map-filter : {A B : Type 0} (v : A → B) (test : B → Bool) (xs : List A) → map v (filter (λ x. test (v x)) xs) ≡ filter test (map v xs)
map-filter v test [] = refl
map-filter {A = A} {B = B} v test (x ∷ xs) = go (test (v x)) _ _ (map-filter v test xs)
  where
    go : (b : Bool) (ys : List A) (zs : List B) → map v ys ≡ zs → map v (cond b (x ∷ ys) ys) ≡ cond b (v x ∷ zs) zs
    go true ys zs same = ap (λ rest. v x ∷ rest) same
    go false ys zs same = same

pub list_any-map : {A B : Type 0} (test : B → Bool) (v : A → B) (xs : List A) → list_any test (map v xs) ≡ list_any (λ x. test (v x)) xs
list_any-map test v [] = refl
list_any-map test v (x ∷ xs) = ap (λ b. test (v x) || b) (list_any-map test v xs)
