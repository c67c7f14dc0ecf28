-- What lists of numbers and their images contain.
use Rattle.std.proofs.Common.{◌≡◌, ℕ, zero, suc, length, ◌==◌, ◌||◌, not, Bool, true, false, cond, List, [], ◌∷◌, ◌++◌, map, take, refl, sym, ap, ◌∙◌, arith, Contains}
use Rattle.std.specs.List.{list_any, filter}
use Rattle.std.specs.Cmp.{nat_eq_equiv}
use Rattle.std.proofs.Math.Seq.{take-append_seam}
use Rattle.std.proofs.lemmas.Bool.Decides.{nat_tests}
use Rattle.std.proofs.lemmas.List.{get_or-map, length-map}
use Rattle.std.proofs.lemmas.Map.Views.{Contains-from_any, list_any-from_Contains, exact_unsigned_eq}
use Rattle.netlist.specs.Repeats.{distinct}

-- between the test and the fact
pub contains_from_any : (numbers : List ℕ) (n : ℕ) → list_any (λ m. n == m) numbers ≡ true → Contains numbers n
contains_from_any numbers n any = Contains-from_any exact_unsigned_eq n numbers any

pub any_from_contains : (numbers : List ℕ) (n : ℕ) → Contains numbers n → list_any (λ m. n == m) numbers ≡ true
any_from_contains numbers n at = list_any-from_Contains nat_eq_equiv n numbers at

pub Contains-map : {A B : Type 0} (f : A → B) (xs : List A) (x : A) → Contains xs x → Contains (map f xs) (f x)
Contains-map f xs x at = (at.0, rw length-map at.1, get_or-map f xs at.0 x (f x) at.1 ∙ ap f at.2)

pub Contains-from_map : {A B : Type 0} (f : A → B) (xs : List A) (y : B) → Contains (map f xs) y → (x : A) × Contains xs x × (f x ≡ y)
Contains-from_map f [] y (k, lt, e) = absurd (omega (arith, lt))
Contains-from_map f (x ∷ xs) y (zero, lt, e) = (x, (0, omega arith, refl), e)
Contains-from_map f (x ∷ xs) y (suc k, lt, e) =
    let rest = Contains-from_map f xs y (k, omega (arith, lt), e) in
    (rest.0, (suc rest.1.0, omega (arith, rest.1.1), rest.1.2), rest.2)

pub Contains-one : {A : Type 0} (x y : A) → Contains (x ∷ []) y → x ≡ y
Contains-one x y (zero, lt, e) = e
Contains-one x y (suc k, lt, e) = absurd (omega (arith, lt))

other_number : (p : ℕ → Bool) (n m : ℕ) → p n ≡ true → p m ≡ false → (n == m) ≡ false
other_number p n m passes fails = go (n == m) refl
  where
    go : (same : Bool) → (n == m) ≡ same → same ≡ false
    go true e = let same : n ≡ m = grind (arith, nat_tests) in sym passes ∙ ap p same ∙ fails
    go false e = refl

-- a number that passes is still there when those that do not are left out
pub list_any-filter : (p : ℕ → Bool) (n : ℕ) → p n ≡ true → (numbers : List ℕ) →
    list_any (λ m. n == m) (filter p numbers) ≡ list_any (λ m. n == m) numbers
list_any-filter p n passes [] = refl
list_any-filter p n passes (m ∷ numbers) = go (p m) refl (list_any-filter p n passes numbers)
  where
    go : (kept : Bool) → p m ≡ kept → list_any (λ m. n == m) (filter p numbers) ≡ list_any (λ m. n == m) numbers →
        list_any (λ m. n == m) (cond kept (m ∷ filter p numbers) (filter p numbers)) ≡ ((n == m) || list_any (λ m. n == m) numbers)
    go true e rest = ap (λ any. (n == m) || any) rest
    go false e rest = rest ∙ ap (λ same. same || list_any (λ m. n == m) numbers) (sym (other_number p n m passes e))

-- so is each number when repeats are left out
pub list_any-distinct : (numbers : List ℕ) (n : ℕ) → list_any (λ m. n == m) (distinct numbers) ≡ list_any (λ m. n == m) numbers
list_any-distinct [] n = refl
list_any-distinct (m ∷ numbers) n = go (n == m) refl (list_any-distinct numbers n)
  where
    go : (same : Bool) → (n == m) ≡ same → list_any (λ m. n == m) (distinct numbers) ≡ list_any (λ m. n == m) numbers →
        (same || list_any (λ m. n == m) (filter (λ k. not (k == m)) (distinct numbers))) ≡ (same || list_any (λ m. n == m) numbers)
    go true e rest = refl
    go false e rest = list_any-filter (λ k. not (k == m)) n (ap not e) (distinct numbers) ∙ rest

-- a list that is written back over as many elements
pub take-written : {A : Type 0} (n : ℕ) (xs ys : List A) → n ≡ length xs → take n (xs ++ ys) ≡ xs
take-written n xs ys e = ap (λ n. take n (xs ++ ys)) e ∙ take-append_seam xs ys
