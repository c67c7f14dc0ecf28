-- What is found for each of a list, one after the other.
use Rattle.std.proofs.Common.{◌≡◌, refl, sym, ap, subst, ◌∙◌, ℕ, suc, ◌+◌, ◌-◌, ◌<◌, List, [], ◌∷◌, ◌++◌, drop, filter_map, get_or, length, map, slice_get, option_map, option_and_then, Option, None, Some, append_assoc, append-nil, add-one, drop-cons, arith, All}
use Rattle.std.specs.List.{range_with_len}
use Rattle.std.proofs.lemmas.List.{length-map, get_or-map}
use Rattle.std.proofs.lemmas.List.Elements.{All-cons, All-nil}
use Rattle.net_words.specs.Meant.{all_found}

module _ {A B : Type 0} (find : A → Option B) where
  -- what was found so far, and what is found of the rest
  abbrev pub found_after : List B → List A → Option (List B)
  found_after found rest = option_map (λ ys. found ++ ys) (all_found find rest)

  regrouped : (found : List B) (y : B) (rest : Option (List B)) →
      option_map (λ ys. (found ++ y ∷ []) ++ ys) rest ≡ option_map (λ ys. found ++ ys) (option_map (λ ys. y ∷ ys) rest)
  regrouped found y None = refl
  regrouped found y (Some ys) = ap (λ zs. Some zs) (append_assoc found (y ∷ []) ys)

  -- one more is found
  pub found_more : (found more : List B) (x : A) (rest : List A) (y : B) → find x ≡ Some y → more ≡ found ++ y ∷ [] →
      found_after more rest ≡ found_after found (x ∷ rest)
  found_more found more x rest y is longer = rw (longer, is) (regrouped found y (all_found find rest))

  -- nothing is found for one, and so not for all
  pub found_none : (found : List B) (x : A) (rest : List A) → find x ≡ None → found_after found (x ∷ rest) ≡ None
  found_none found x rest none = rw none refl

  pub found_all : (found : List B) → found_after found [] ≡ Some found
  found_all found = ap (λ zs. Some zs) (append-nil found)

  -- what holds of each that can be found holds of all that are
  pub All-all_found : (P : B → Type 0) → ((x : A) (y : B) → find x ≡ Some y → P y) → (xs : List A) (ys : List B) → all_found find xs ≡ Some ys → All P ys
  All-all_found P holds [] ys is = let none : ys ≡ [] = cc in rw none (All-nil P)
  All-all_found P holds (x ∷ xs) ys is = go (find x) refl (all_found find xs) (All-all_found P holds xs) is
    where
      go : (found : Option B) → find x ≡ found → (rest : Option (List B)) → ((zs : List B) → rest ≡ Some zs → All P zs) →
          option_and_then (λ y. option_map (λ zs. y ∷ zs) rest) found ≡ Some ys → All P ys
      go None is rest all e = absurd (cc)
      go (Some y) is None all e = absurd (cc)
      go (Some y) is (Some zs) all e =
          let same : y ∷ zs ≡ ys = cc in
          subst (All P) same (All-cons P y zs (holds x y is) (all zs refl))

  -- the same for a list that is made of numbers
  module _ (make : ℕ → A) (found : List B) (at end : ℕ) (inside : at < end) where
    abbrev from_on : ℕ → List A
    from_on place = map make (range_with_len place (end - place))

    made-next : from_on at ≡ make at ∷ from_on (at + 1)
    made-next = let one : end - at ≡ suc (end - (at + 1)) = omega arith in rw one refl

    pub made_more : (more : List B) (y : B) → find (make at) ≡ Some y → more ≡ found ++ y ∷ [] → found_after more (from_on (at + 1)) ≡ found_after found (from_on at)
    made_more more y is longer = found_more found more (make at) (from_on (at + 1)) y is longer ∙ ap (found_after found) (sym made-next)

    pub made_none : find (make at) ≡ None → found_after found (from_on at) ≡ None
    made_none none = ap (found_after found) made-next ∙ found_none found (make at) (from_on (at + 1)) none

-- the next of a list
pub next : {A B : Type 0} (f : A → B) (xs : List A) (place : ℕ) (d : A) → place < length xs →
    drop place (map f xs) ≡ f (get_or xs place d) ∷ drop (place + 1) (map f xs)
next f xs place d inside =
    rw (drop-cons (map f xs) place (f d) (omega (arith, length-map xs f)), add-one)
    (ap (λ y. y ∷ drop (suc place) (map f xs)) (get_or-map f xs place d (f d) inside))

-- the first of what numbers give
module _ {A : Type 0} (give : ℕ → Option A) (at end : ℕ) (inside : at < end) where
  abbrev given_from : ℕ → List A
  given_from place = filter_map give (range_with_len place (end - place))

  pub given_first : (x : A) → give at ≡ Some x → slice_get (given_from at) 0 ≡ Some x
  given_first x is = let one : end - at ≡ suc (end - (at + 1)) = omega arith in rw (one, is) refl

  pub given_later : give at ≡ None → given_from (at + 1) ≡ given_from at
  given_later none = let one : end - at ≡ suc (end - (at + 1)) = omega arith in rw (one, none) refl
