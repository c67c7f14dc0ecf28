-- The first item of a list that passes, seen as another.
use Rattle.std.proofs.Common.{◌≡◌, ℕ, suc, ◌+◌, ◌<◌, Bool, true, false, cond, List, [], ◌∷◌, drop, drop-cons, add-one, get_or, length, map, Option, Some, option_map, ap, arith, refl, sym, ◌∙◌}
use Rattle.std.proofs.lemmas.List.{get_or-map, length-map}
use Rattle.std.specs.List.{find}

pub find-map : {A B : Type 0} (v : A → B) (test : B → Bool) (xs : List A) → option_map v (find (λ x. test (v x)) xs) ≡ find test (map v xs)
find-map v test [] = refl
find-map {A = A} {B = B} v test (x ∷ xs) = go (test (v x)) _ _ (find-map v test xs)
  where
    go : (b : Bool) (first : Option A) (other : Option B) → option_map v first ≡ other → option_map v (cond b (Some x) first) ≡ cond b (Some (v x)) other
    go true first other same = refl
    go false first other same = same

-- the first from a place on
find-next : {A B : Type 0} (v : A → B) (test : B → Bool) (xs : List A) (place : ℕ) (d : A) → place < length xs →
    find test (drop place (map v xs)) ≡ cond (test (v (get_or xs place d))) (Some (v (get_or xs place d))) (find test (drop (place + 1) (map v xs)))
find-next v test xs place d inside =
    rw (drop-cons (map v xs) place (v d) (omega (arith, length-map xs v)), add-one)
    (ap (λ y. cond (test y) (Some y) (find test (drop (suc place) (map v xs)))) (get_or-map v xs place d (v d) inside))

module _ {A B : Type 0} (v : A → B) (test : B → Bool) (xs : List A) (place : ℕ) (d : A) (inside : place < length xs) where
  pub find-here : test (v (get_or xs place d)) ≡ true → find test (drop place (map v xs)) ≡ Some (v (get_or xs place d))
  find-here passes = find-next v test xs place d inside ∙ rw passes refl

  pub find-later : test (v (get_or xs place d)) ≡ false → find test (drop (place + 1) (map v xs)) ≡ find test (drop place (map v xs))
  find-later fails = sym (find-next v test xs place d inside ∙ rw fails refl)
