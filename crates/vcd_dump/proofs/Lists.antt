-- Lists that are cut at elements, and joined end to end.
use Rattle.std.proofs.Common.{◌≡◌, ℕ, suc, ◌<◌, ◌||◌, Bool, true, false, cond, List, [], ◌∷◌, ◌++◌, length, take, drop, Option, Some, refl, ap, sym, ◌∙◌, take-append-drop, drop-cons, arith, one-add, suc-add}
use Rattle.std.specs.List.{slice_get, slice_split, onto_first, filter, flat_map, before_first, after_first, last_or, AllByRecursion}
use Rattle.std.proofs.lemmas.List.Elements.{filter-append}
use Rattle.std.proofs.lemmas.Option.{slice_get_within, get_or_from_slice_get}
use Rattle.std.proofs.lemmas.List.Splits.{length-slice_split}

-- ---- each element

-- where a fact implies another, it does so at each element
pub AllByRecursion-weaker : {X : Type 0} {P Q : X → Type 0} (xs : List X) → ((x : X) → P x → Q x) →
    AllByRecursion P xs → AllByRecursion Q xs
AllByRecursion-weaker [] h all = tt
AllByRecursion-weaker (x ∷ xs) h all = (h x all.0, AllByRecursion-weaker xs h all.1)

-- what holds of each element of two lists holds of those of the first
pub AllByRecursion-front : {X : Type 0} (P : X → Type 0) (xs ys : List X) → AllByRecursion P (xs ++ ys) → AllByRecursion P xs
AllByRecursion-front P [] ys all = tt
AllByRecursion-front P (x ∷ xs) ys all = (all.0, AllByRecursion-front P xs ys all.1)

-- an element stands between those before it and those behind it
pub slice_get-between : {X : Type 0} (xs : List X) (place : ℕ) (x : X) → slice_get xs place ≡ Some x →
    xs ≡ take place xs ++ x ∷ drop (suc place) xs
slice_get-between xs place x here =
    let within = slice_get_within xs place x here in
    sym (take-append-drop place xs)
    ∙ ap (λ ys. take place xs ++ ys)
    (drop-cons xs place x within ∙ ap (λ y. y ∷ drop (suc place) xs) (get_or_from_slice_get xs place x x here))

-- ---- parts

-- one more element at the first of some parts leaves the later ones
onto_first-append : {X : Type 0} (x : X) (parts others : List (List X)) → 0 < length parts →
    onto_first x (parts ++ others) ≡ onto_first x parts ++ others
onto_first-append x [] others some = absurd (omega arith)
onto_first-append x (part ∷ parts) others some = refl

-- where a list is cut, its parts are those of both sides
pub slice_split-append : {X : Type 0} (p : X → Bool) (xs : List X) (y : X) (ys : List X) → p y ≡ true →
    slice_split p (xs ++ y ∷ ys) ≡ slice_split p xs ++ slice_split p ys
slice_split-append p [] y ys cut = rw cut refl
slice_split-append p (x ∷ xs) y ys cut = rw (slice_split-append p xs y ys cut) (go (p x))
  where
    go : (b : Bool) →
        cond b ([] ∷ (slice_split p xs ++ slice_split p ys)) (onto_first x (slice_split p xs ++ slice_split p ys))
        ≡ cond b ([] ∷ slice_split p xs) (onto_first x (slice_split p xs)) ++ slice_split p ys
    go true = refl
    go false = onto_first-append x (slice_split p xs) (slice_split p ys) (omega (arith, length-slice_split p xs))

-- a list that is cut by two tests is cut by the second, and each part by the first
pub slice_split-either : {X : Type 0} (p q : X → Bool) (xs : List X) →
    slice_split (λ x. p x || q x) xs ≡ flat_map (slice_split p) (slice_split q xs)
slice_split-either p q [] = refl
slice_split-either {X = X} p q (x ∷ xs) =
    rw (slice_split-either p q xs) (go (p x) refl (q x) (slice_split q xs) (omega (arith, length-slice_split q xs)))
  where
    go : (a : Bool) → p x ≡ a → (b : Bool) (parts : List (List X)) → 0 < length parts →
        cond (a || b) ([] ∷ flat_map (slice_split p) parts) (onto_first x (flat_map (slice_split p) parts))
        ≡ flat_map (slice_split p) (cond b ([] ∷ parts) (onto_first x parts))
    go a e b [] some = absurd (omega arith)
    go true e true (part ∷ parts) some = refl
    go false e true (part ∷ parts) some = refl
    go true e false (part ∷ parts) some = rw e refl
    go false e false (part ∷ parts) some =
        rw e (onto_first-append x (slice_split p part) (flat_map (slice_split p) parts)
        (omega (arith, length-slice_split p part)))

-- a filter of lists that are joined end to end
pub filter-flat_map : {X Y : Type 0} (p : Y → Bool) (f : X → List Y) (xs : List X) →
    filter p (flat_map f xs) ≡ flat_map (λ x. filter p (f x)) xs
filter-flat_map p f [] = refl
filter-flat_map p f (x ∷ xs) = rw (← filter-flat_map p f xs) (filter-append p (f x) (flat_map f xs))

-- ---- lists up to an element and behind it

-- elements that fail stay in front
pub before_first-append : {X : Type 0} (p : X → Bool) (xs ys : List X) → AllByRecursion (λ x. p x ≡ false) xs →
    before_first p (xs ++ ys) ≡ xs ++ before_first p ys
before_first-append p [] ys none = refl
before_first-append p (x ∷ xs) ys none =
    let rest = before_first-append p xs ys none.1 in rw (none.0, one-add) (ap (λ zs. x ∷ zs) rest)

-- nothing stands before a first element that passes
pub before_first-cut : {X : Type 0} (p : X → Bool) (x : X) (xs : List X) → p x ≡ true → before_first p (x ∷ xs) ≡ []
before_first-cut p x xs cut = rw cut refl

-- elements that fail are passed over
pub after_first-append : {X : Type 0} (p : X → Bool) (xs ys : List X) → AllByRecursion (λ x. p x ≡ false) xs →
    after_first p (xs ++ ys) ≡ after_first p ys
after_first-append p [] ys none = refl
after_first-append p (x ∷ xs) ys none = let rest = after_first-append p xs ys none.1 in rw (none.0, one-add, suc-add) rest

-- behind a first element that passes stands the rest
pub after_first-cut : {X : Type 0} (p : X → Bool) (x : X) (xs : List X) → p x ≡ true → after_first p (x ∷ xs) ≡ xs
after_first-cut p x xs cut = rw cut refl

-- the last of two lists is the last of the second, else of the first
pub last_or-append : {X : Type 0} (o : Option X) (xs ys : List X) → last_or o (xs ++ ys) ≡ last_or (last_or o xs) ys
last_or-append o [] ys = refl
last_or-append o (x ∷ xs) ys = last_or-append (Some x) xs ys
