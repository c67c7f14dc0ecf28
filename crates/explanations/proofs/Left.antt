-- The names that are left where those that lines define are taken out.
use Rattle.std.proofs.Common.{◌≡◌, Bool, true, false, cond, ◌||◌, not, List, [], ◌∷◌, Option, Some, refl, ap}
use Rattle.std.specs.List.{filter, find}

pub filter-all : {A : Type 0} (xs : List A) → filter (λ x. true) xs ≡ xs
filter-all [] = refl
filter-all (x ∷ xs) = ap (λ rest. x ∷ rest) (filter-all xs)

-- the first that is neither gone nor gone later is the first of those left that isn't gone later
pub find-left : {A : Type 0} (gone later : A → Bool) (xs : List A) →
    find (λ x. not (gone x || later x)) xs ≡ find (λ x. not (later x)) (filter (λ x. not (gone x)) xs)
find-left gone later [] = refl
find-left {A = A} gone later (x ∷ xs) = go (gone x) _ _ (find-left gone later xs)
  where
    go : (b : Bool) (first : Option A) (ys : List A) → first ≡ find (λ x. not (later x)) ys →
        cond (not (b || later x)) (Some x) first ≡ find (λ x. not (later x)) (cond (not b) (x ∷ ys) ys)
    go true first ys same = same
    go false first ys same = ap (cond (not (later x)) (Some x)) same
