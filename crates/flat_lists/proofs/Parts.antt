-- Parts of a list.
use Rattle.std.proofs.Common.{◌≡◌, ℕ, ◌+◌, zero, suc, ◌-◌, ◌<◌, ◌≤◌, List, [], ◌∷◌, ◌++◌, length, take, drop, slice_range, slice_index_or, refl, ap, sym, ◌∙◌, arith}
use Rattle.std.proofs.lemmas.List.{length-append, length-drop, drop_at, take_all, drop-append-le, take-append-le}
use Rattle.flat_lists.specs.Parts.{parts_from, parts, AreBoundsFrom, AreBounds}

-- ---- how many there are

length-parts_from : {A : Type 0} (first : ℕ) (bounds : List ℕ) (xs : List A) → length (parts_from first bounds xs) ≡ length bounds
length-parts_from first [] xs = refl
length-parts_from first (next ∷ bounds) xs = ap suc (length-parts_from next bounds xs)

-- one fewer than places
pub length-parts : {A : Type 0} (bounds : List ℕ) (xs : List A) → AreBounds bounds xs → length (parts bounds xs) + 1 ≡ length bounds
length-parts [] xs are = absurd are
length-parts (first ∷ bounds) xs are = omega (arith, length-parts_from first bounds xs)

-- ---- a part

bounds_within : {A : Type 0} (first : ℕ) (bounds : List ℕ) (xs : List A) → AreBoundsFrom first bounds xs → first ≤ length xs
bounds_within first [] xs are = omega (arith, are)
bounds_within first (next ∷ bounds) xs are = omega (arith, are.0, bounds_within next bounds xs are.1)

-- a part of a list lies between two of the places
pub record IsPart {A : Type 0} (bounds : List ℕ) (xs : List A) (at : ℕ) : Type 0 where
  pub is : slice_index_or (parts bounds xs) at [] ≡ slice_range xs (slice_index_or bounds at 0) (slice_index_or bounds (suc at) 0)
  pub rising : slice_index_or bounds at 0 ≤ slice_index_or bounds (suc at) 0
  pub within : slice_index_or bounds (suc at) 0 ≤ length xs
  pub exists : suc at < length bounds

part_from : {A : Type 0} (first : ℕ) (bounds : List ℕ) (xs : List A) (at : ℕ) → AreBoundsFrom first bounds xs → at < length (parts_from first bounds xs) →
    IsPart (first ∷ bounds) xs at
part_from first [] xs at are below = absurd (omega arith)
part_from first (next ∷ bounds) xs zero are below =
    record { is = refl; rising = are.0; within = bounds_within next bounds xs are.1; exists = omega arith }
part_from first (next ∷ bounds) xs (suc at) are below =
    let later = part_from next bounds xs at are.1 (omega arith) in
    record { is = later.is; rising = later.rising; within = later.within; exists = omega (arith, later.exists) }

pub part_at : {A : Type 0} (bounds : List ℕ) (xs : List A) (at : ℕ) → AreBounds bounds xs → at < length (parts bounds xs) → IsPart bounds xs at
part_at [] xs at are below = absurd are
part_at (first ∷ bounds) xs at are below = part_from first bounds xs at are below

-- ---- a part more

module _ {A : Type 0} (xs ys : List A) where
  abbrev end : ℕ
  end = length (xs ++ ys)

  last_part : (last : ℕ) → last ≡ length xs → slice_range (xs ++ ys) last end ≡ ys
  last_part last e =
      ap (take (end - last)) (drop_at xs ys last (sym e)) ∙ take_all (end - last) ys (omega (arith, e, length-append xs ys))

  part_stays : (first next : ℕ) → first ≤ next → next ≤ length xs → slice_range (xs ++ ys) first next ≡ slice_range xs first next
  part_stays first next rising within =
      ap (take (next - first)) (drop-append-le first xs ys (omega (arith, rising, within)))
      ∙ take-append-le (next - first) (drop first xs) ys (omega (arith, within, length-drop first xs))

  more_from : (first : ℕ) (bounds : List ℕ) → AreBoundsFrom first bounds xs →
      parts_from first (bounds ++ end ∷ []) (xs ++ ys) ≡ parts_from first bounds xs ++ ys ∷ []
  more_from last [] are = ap (λ part. part ∷ []) (last_part last are)
  more_from first (next ∷ bounds) are =
      let part = part_stays first next are.0 (bounds_within next bounds xs are.1) in
      let later = more_from next bounds are.1 in
      λ i. part i ∷ later i

  bounds_from : (first : ℕ) (bounds : List ℕ) → AreBoundsFrom first bounds xs → AreBoundsFrom first (bounds ++ end ∷ []) (xs ++ ys)
  bounds_from last [] are = (omega (arith, are, length-append xs ys), refl)
  bounds_from first (next ∷ bounds) are = (are.0, bounds_from next bounds are.1)

  pub parts_more : (bounds : List ℕ) → AreBounds bounds xs → parts (bounds ++ end ∷ []) (xs ++ ys) ≡ parts bounds xs ++ ys ∷ []
  parts_more [] are = absurd are
  parts_more (first ∷ bounds) are = more_from first bounds are

  pub bounds_more : (bounds : List ℕ) → AreBounds bounds xs → AreBounds (bounds ++ end ∷ []) (xs ++ ys)
  bounds_more [] are = absurd are
  bounds_more (first ∷ bounds) are = bounds_from first bounds are
