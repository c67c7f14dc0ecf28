-- Each number where it stands first.
use Rattle.std.proofs.Common.{◌≡◌, [], ◌≢◌, ℕ, suc, ◌+◌, ◌==◌, ◌<◌, ◌||◌, not, Bool, true, false, cond, List, ◌∷◌, ◌++◌, length, get_or, set, take, All, AllPairs, refl, sym, ap, ◌∙◌, arith}
use Rattle.std.specs.List.{list_any, filter}
use Rattle.std.proofs.lemmas.Bool.Decides.{nat_tests}
use Rattle.std.proofs.lemmas.List.{append-nil, take_more, get_or-set_same, get_or-set_other}
use Rattle.std.proofs.lemmas.List.Elements.{filter-append, All-cons, All-nil, All-filter, All-head, All-tail, All-weaker, filter_passes}
use Rattle.std.proofs.lemmas.List.Kept.{AllPairs-cons, AllPairs-filter}
use Rattle.std.proofs.lemmas.List.Folds.{list_any_more}
use Rattle.std.proofs.lemmas.Bool.{eqb-false, eqb-true}
use Rattle.netlist.specs.Repeats.{distinct}

-- one more number at the end
pub distinct_push : (xs : List ℕ) (n : ℕ) → distinct (xs ++ n ∷ []) ≡ cond (list_any (λ m. n == m) xs) (distinct xs) (distinct xs ++ n ∷ [])
distinct_push [] n = refl
distinct_push (x ∷ xs) n = rw (distinct_push xs n) (go (n == x) (list_any (λ m. n == m) xs) refl)
  where
    go : (same before : Bool) → (n == x) ≡ same →
        x ∷ filter (λ m. not (m == x)) (cond before (distinct xs) (distinct xs ++ n ∷ []))
        ≡ cond (same || before) (x ∷ filter (λ m. not (m == x)) (distinct xs)) (x ∷ filter (λ m. not (m == x)) (distinct xs) ++ n ∷ [])
    go true true e = refl
    go false true e = refl
    go true false e = rw (filter-append (λ m. not (m == x)) (distinct xs) (n ∷ []), e, append-nil) refl
    go false false e = rw (filter-append (λ m. not (m == x)) (distinct xs) (n ∷ []), e) refl

or_false : (b : Bool) → b ≡ (b || false)
or_false true = refl
or_false false = refl

or_true : (b : Bool) → true ≡ (b || true)
or_true true = refl
or_true false = refl

-- the number at a place, and marks at the numbers before it
module _ (numbers : List ℕ) (i : ℕ) (inside : i < length numbers) (marks : List Bool) (bound : ℕ) (size : length marks ≡ bound)
    (below : get_or numbers i 0 < bound) (known : (k : ℕ) → k < bound → get_or marks k false ≡ list_any (λ m. k == m) (take i numbers)) where
  abbrev this : ℕ
  this = get_or numbers i 0

  more : distinct (take (i + 1) numbers) ≡ cond (get_or marks this false) (distinct (take i numbers)) (distinct (take i numbers) ++ this ∷ [])
  more =
      ap distinct (take_more numbers i 0 inside) ∙ distinct_push (take i numbers) this
      ∙ ap (λ came. cond came (distinct (take i numbers)) (distinct (take i numbers) ++ this ∷ [])) (sym (known this below))

  -- the number has come before, or it is new
  pub distinct-repeat : get_or marks this false ≡ true → distinct (take i numbers) ≡ distinct (take (i + 1) numbers)
  distinct-repeat came = sym (more ∙ rw came refl)

  pub distinct-new : get_or marks this false ≡ false → distinct (take i numbers) ++ this ∷ [] ≡ distinct (take (i + 1) numbers)
  distinct-new came = sym (more ∙ rw came refl)

  -- and the marks at the numbers up to it
  pub marks-repeat : get_or marks this false ≡ true → (k : ℕ) → k < bound → get_or marks k false ≡ list_any (λ m. k == m) (take (i + 1) numbers)
  marks-repeat came k within = known k within ∙ go (k == this) refl ∙ sym (list_any_more (λ m. k == m) numbers i 0 inside)
    where
      go : (same : Bool) → (k == this) ≡ same → list_any (λ m. k == m) (take i numbers) ≡ (list_any (λ m. k == m) (take i numbers) || k == this)
      go true e =
          sym (known k within) ∙ ap (λ k. get_or marks k false) (eqb-true k this e) ∙ came
          ∙ or_true (list_any (λ m. k == m) (take i numbers)) ∙ ap (λ same. list_any (λ m. k == m) (take i numbers) || same) (sym e)
      go false e = or_false (list_any (λ m. k == m) (take i numbers)) ∙ ap (λ same. list_any (λ m. k == m) (take i numbers) || same) (sym e)

  pub marks-new : (k : ℕ) → k < bound → get_or (set marks this true) k false ≡ list_any (λ m. k == m) (take (i + 1) numbers)
  marks-new k within = go (k == this) refl ∙ sym (list_any_more (λ m. k == m) numbers i 0 inside)
    where
      go : (same : Bool) → (k == this) ≡ same → get_or (set marks this true) k false ≡ (list_any (λ m. k == m) (take i numbers) || k == this)
      go true e =
          ap (λ k. get_or (set marks this true) k false) (eqb-true k this e) ∙ get_or-set_same marks this true false (omega arith)
          ∙ or_true (list_any (λ m. k == m) (take i numbers)) ∙ ap (λ same. list_any (λ m. k == m) (take i numbers) || same) (sym e)
      go false e =
          get_or-set_other marks this k true false (eqb-false k this e) ∙ known k within
          ∙ or_false (list_any (λ m. k == m) (take i numbers)) ∙ ap (λ same. list_any (λ m. k == m) (take i numbers) || same) (sym e)

pub All-distinct : (P : ℕ → Type 0) (numbers : List ℕ) → All P numbers → All P (distinct numbers)
All-distinct P [] all = All-nil P
All-distinct P (n ∷ numbers) all =
    All-cons P n (filter (λ m. not (m == n)) (distinct numbers)) (All-head P n numbers all)
    (All-filter (λ m. not (m == n)) P (distinct numbers) (All-distinct P numbers (All-tail P n numbers all)))

passes-other : (m n : ℕ) → not (m == n) ≡ true → n ≢ m
passes-other m n e = grind (arith, nat_tests)

pub AllPairs-distinct : (numbers : List ℕ) → AllPairs (λ (earlier later : ℕ). earlier ≢ later) (distinct numbers)
AllPairs-distinct [] = λ i j d before inside. absurd (omega arith)
AllPairs-distinct (n ∷ numbers) =
    let kept = λ (m : ℕ). not (m == n) in
    AllPairs-cons (λ earlier later. earlier ≢ later) n (filter kept (distinct numbers))
    (All-weaker (λ m. kept m ≡ true) (λ m. n ≢ m) (λ m passes. passes-other m n passes) (filter kept (distinct numbers)) (filter_passes kept (distinct numbers)))
    (AllPairs-filter (λ earlier later. earlier ≢ later) kept (distinct numbers) (AllPairs-distinct numbers))

-- ---- numbers that differ

pub AllPairs-head : {X : Type 0} (R : X → X → Type 0) (x : X) (xs : List X) → AllPairs R (x ∷ xs) → All (R x) xs
AllPairs-head R x xs pairs = λ k d inside. pairs 0 (suc k) d (omega arith) (omega arith)

pub AllPairs-tail : {X : Type 0} (R : X → X → Type 0) (x : X) (xs : List X) → AllPairs R (x ∷ xs) → AllPairs R xs
AllPairs-tail R x xs pairs = λ i j d before inside. pairs (suc i) (suc j) d (omega arith) (omega arith)

other_passes : (m n : ℕ) → n ≢ m → not (m == n) ≡ true
other_passes m n other = grind (arith, nat_tests)

filter-others : (n : ℕ) (numbers : List ℕ) → All (λ m. n ≢ m) numbers → filter (λ m. not (m == n)) numbers ≡ numbers
filter-others n [] others = refl
filter-others n (m ∷ numbers) others =
    ap (λ passes. cond passes (m ∷ filter (λ m. not (m == n)) numbers) (filter (λ m. not (m == n)) numbers))
    (other_passes m n (All-head (λ m. n ≢ m) m numbers others))
    ∙ ap (λ rest. m ∷ rest) (filter-others n numbers (All-tail (λ m. n ≢ m) m numbers others))

-- numbers that differ all stay
pub distinct-same : (numbers : List ℕ) → AllPairs (λ (earlier later : ℕ). earlier ≢ later) numbers → distinct numbers ≡ numbers
distinct-same [] pairs = refl
distinct-same (n ∷ numbers) pairs =
    let R = λ (earlier later : ℕ). earlier ≢ later in
    ap (λ kept. n ∷ filter (λ m. not (m == n)) kept) (distinct-same numbers (AllPairs-tail R n numbers pairs))
    ∙ ap (λ kept. n ∷ kept) (filter-others n numbers (AllPairs-head R n numbers pairs))
