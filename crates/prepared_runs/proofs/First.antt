-- What stands before and behind the first element that passes a test.
use Rattle.std.proofs.Common.{◌≡◌, ◌+◌, Bool, true, false, List, [], ◌∷◌, ◌++◌, drop, refl, one-add, suc-add}
use Rattle.std.specs.List.{list_any, position_or_len, before_first, after_first}
use Rattle.std.proofs.lemmas.Bool.{or_parts, or_from}

module _ {X : Type 0} (p : X → Bool) where
  -- the first element fails
  pub position_or_len-no : (x : X) (xs : List X) → p x ≡ false → position_or_len p (x ∷ xs) ≡ 1 + position_or_len p xs
  position_or_len-no x xs failed = rw failed refl

  -- what stands from that element on begins with one that passes
  pub passes-stop : (xs : List X) (x : X) (rest : List X) → drop (position_or_len p xs) xs ≡ x ∷ rest → p x ≡ true
  passes-stop [] x rest e = cc
  passes-stop (y ∷ xs) x rest e = go (p y) refl e (passes-stop xs x rest)
    where
      go : (b : Bool) → p y ≡ b → drop (position_or_len p (y ∷ xs)) (y ∷ xs) ≡ x ∷ rest →
          (drop (position_or_len p xs) xs ≡ x ∷ rest → p x ≡ true) → p x ≡ true
      go true passed is more = let same = rw passed at is in let first : y ≡ x = cc in rw (← first) passed
      go false failed is more = more (rw (failed, one-add) at is)

  -- nothing stands behind it where no element passes
  pub after_first-none : (xs : List X) → list_any p xs ≡ false → after_first p xs ≡ []
  after_first-none [] none = refl
  after_first-none (x ∷ xs) none =
      let parts = or_parts (p x) (list_any p xs) none in
      rw (parts.0, one-add, suc-add) (after_first-none xs parts.1)

  -- what stands behind it where it is the first that passes
  pub after_first-append : (earlier : List X) (x : X) (xs : List X) → list_any p earlier ≡ false → p x ≡ true → after_first p (earlier ++ x ∷ xs) ≡ xs
  after_first-append [] x xs none passed = rw passed refl
  after_first-append (y ∷ earlier) x xs none passed =
      let parts = or_parts (p y) (list_any p earlier) none in
      rw (parts.0, one-add, suc-add) (after_first-append earlier x xs parts.1 passed)

-- two tests
module _ {X : Type 0} (p q : X → Bool) where
  -- one that fails wherever the other fails
  pub list_any-before_first : ((x : X) → q x ≡ false → p x ≡ false) → (xs : List X) → list_any p (before_first q xs) ≡ false
  list_any-before_first fails [] = refl
  list_any-before_first fails (x ∷ xs) = go (q x) refl (list_any-before_first fails xs)
    where
      go : (b : Bool) → q x ≡ b → list_any p (before_first q xs) ≡ false → list_any p (before_first q (x ∷ xs)) ≡ false
      go true passed rest = rw passed refl
      go false failed rest = rw (failed, one-add) (or_from (p x) _ (fails x failed) rest)
