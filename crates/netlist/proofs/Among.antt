-- Whether a name is another, or among others, and where.
use Rattle.std.proofs.Common.{◌≡◌, ◌≢◌, ℕ, [], suc, ◌+◌, ◌||◌, not, Bool, true, false, cond, ltb, List, ◌∷◌, length, position, bytes_eq, Some, None, refl, arith, Option}
use Rattle.std.specs.List.{list_any, position_or_len}
use Rattle.std.specs.Option.{is_some}
use Rattle.std.proofs.lemmas.Bool.{false_from_ne_true}
use Rattle.std.proofs.lemmas.Bool.Decides.{nat_tests}
use Rattle.std.proofs.lemmas.Slice.Eq.{bytes_eq-Decides}

-- a name is the same as itself alone
pub bytes_eq-same : (name : List ℕ) → bytes_eq name name ≡ true
bytes_eq-same name = (bytes_eq-Decides name name).1 refl

pub bytes_eq-other : (name other : List ℕ) → name ≢ other → bytes_eq name other ≡ false
bytes_eq-other name other apart = false_from_ne_true (bytes_eq name other) (λ same. apart ((bytes_eq-Decides name other).0 same))

-- an element passes where the place of the first is within the list
pub list_any-place : {X : Type 0} (p : X → Bool) (xs : List X) → list_any p xs ≡ ltb (position_or_len p xs) (length xs)
list_any-place p [] = refl
list_any-place p (x ∷ xs) = go (p x) (list_any-place p xs)
  where
    go : (b : Bool) → list_any p xs ≡ ltb (position_or_len p xs) (length xs) →
        (b || list_any p xs) ≡ ltb (cond (not b) (1 + position_or_len p xs) 0) (suc (length xs))
    go true rest = grind (arith, nat_tests)
    go false rest = grind (arith, nat_tests)

pub is_some-position : {X : Type 0} (p : X → Bool) (xs : List X) → is_some (position p xs) ≡ list_any p xs
is_some-position p xs = rw (list_any-place p xs) (go (ltb (position_or_len p xs) (length xs)))
  where
    go : (b : Bool) → is_some (cond b (Some (position_or_len p xs)) None) ≡ b
    go true = refl
    go false = refl

pub none_from_is_some : {A : Type 0} (found : Option A) → is_some found ≡ false → found ≡ None
none_from_is_some (Some x) e = cc
none_from_is_some None e = refl
