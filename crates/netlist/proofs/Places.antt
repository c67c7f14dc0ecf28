-- Where an element stands in a list.
use Rattle.std.proofs.Common.{◌≡◌, ◌+◌, Bool, false, cond, not, List, [], ◌∷◌, ◌++◌, map, position, None, All, refl, ap, arith}
use Rattle.std.specs.List.{position_or_len}
use Rattle.std.proofs.lemmas.Bool.Decides.{nat_tests}
use Rattle.std.proofs.lemmas.List.{length-map}
use Rattle.std.proofs.lemmas.List.Folds.{list_any_none}
use Rattle.std.proofs.lemmas.List.Sums.{fails_before_first}
use Rattle.indexmap.specs.IndexSet.{insert_key}

-- the first place in a list whose elements were mapped
pub position_or_len-map : {X Y : Type 0} (f : X → Y) (p : Y → Bool) (xs : List X) →
    position_or_len p (map f xs) ≡ position_or_len (λ x. p (f x)) xs
position_or_len-map f p [] = refl
position_or_len-map f p (x ∷ xs) = ap (λ n. cond (not (p (f x))) (1 + n) 0) (position_or_len-map f p xs)

pub position-map : {X Y : Type 0} (f : X → Y) (p : Y → Bool) (xs : List X) →
    position p (map f xs) ≡ position (λ x. p (f x)) xs
position-map f p xs = rw (position_or_len-map f p xs, length-map) refl

-- where there is no place, every element fails
pub All-from_no_position : {X : Type 0} (p : X → Bool) (xs : List X) → position p xs ≡ None → All (λ x. p x ≡ false) xs
All-from_no_position p xs none k d h = fails_before_first p xs k d (grind (arith, nat_tests))

-- a key that isn't there goes last
pub insert_key-new : {K : Type 0} (eq : K → K → Bool) (keys : List K) (k : K) → position (eq k) keys ≡ None →
    insert_key eq keys k ≡ keys ++ k ∷ []
insert_key-new eq keys k none = rw (list_any_none (eq k) keys (All-from_no_position (eq k) keys none)) refl
