-- The numbers below a bound that pass a test, rising.
use Rattle.std.proofs.Common.{◌≡◌, ◌≢◌, ℕ, zero, suc, ◌+◌, ◌==◌, ◌<◌, ◌≤◌, Bool, true, false, cond, List, [], ◌∷◌, ◌++◌, refl, sym, ap, ◌∙◌, arith, ⊎_elim}
use Rattle.std.specs.List.{filter, range_with_len}
use Rattle.std.proofs.lemmas.Bool.{cases_lt, eq-eqb}
use Rattle.std.proofs.lemmas.List.{map-id, append-nil, append_assoc}
use Rattle.std.proofs.lemmas.List.Elements.{filter-append}
use Rattle.std.proofs.lemmas.List.FromFn.{map-range_with_len_more}
use Rattle.netlist.specs.Repeats.{times}
use Rattle.netlist.proofs.CallerLemmas.{test_fails, the_count, times-append, times_push}

range_more : (n : ℕ) → range_with_len 0 (n + 1) ≡ range_with_len 0 n ++ n ∷ []
range_more n = sym (map-id (range_with_len 0 (n + 1))) ∙ map-range_with_len_more (λ (k : ℕ). k) 0 n n (omega arith) ∙ ap (λ those. those ++ n ∷ []) (map-id (range_with_len 0 n))

pub passing_more : (p : ℕ → Bool) (n : ℕ) →
    filter p (range_with_len 0 (n + 1)) ≡ filter p (range_with_len 0 n) ++ cond (p n) (n ∷ []) []
passing_more p n = ap (filter p) (range_more n) ∙ filter-append p (range_with_len 0 n) (n ∷ [])

pub listed_more : (p : ℕ → Bool) (n : ℕ) (old list : List ℕ) → p n ≡ true → list ≡ old ++ filter p (range_with_len 0 n) →
    list ++ n ∷ [] ≡ old ++ filter p (range_with_len 0 (n + 1))
listed_more p n old list passes so_far =
    ap (λ those. those ++ n ∷ []) so_far ∙ append_assoc old (filter p (range_with_len 0 n)) (n ∷ [])
    ∙ ap (λ those. old ++ those) (sym (passing_more p n ∙ ap (λ passes. filter p (range_with_len 0 n) ++ cond passes (n ∷ []) []) passes))

pub listed_same : (p : ℕ → Bool) (n : ℕ) (old list : List ℕ) → p n ≡ false → list ≡ old ++ filter p (range_with_len 0 n) →
    list ≡ old ++ filter p (range_with_len 0 (n + 1))
listed_same p n old list fails so_far =
    so_far ∙ ap (λ those. old ++ those) (sym (passing_more p n ∙ ap (λ passes. filter p (range_with_len 0 n) ++ cond passes (n ∷ []) []) fails
    ∙ append-nil (filter p (range_with_len 0 n))))

times_more : (p : ℕ → Bool) (net n : ℕ) →
    times net (filter p (range_with_len 0 (n + 1))) ≡ times net (filter p (range_with_len 0 n)) + cond (p n) (the_count (n == net)) 0
times_more p net n =
    ap (times net) (passing_more p n) ∙ times-append net (filter p (range_with_len 0 n)) (cond (p n) (n ∷ []) [])
    ∙ ap (λ k. times net (filter p (range_with_len 0 n)) + k) (go (p n))
  where
    go : (passes : Bool) → times net (cond passes (n ∷ []) []) ≡ cond passes (the_count (n == net)) 0
    go true = times_push net [] n ∙ omega arith
    go false = refl

-- another number doesn't count
other_counts : (passes : Bool) (net n : ℕ) → n ≢ net → cond passes (the_count (n == net)) 0 ≡ 0
other_counts true net n other = ap the_count (test_fails n net other)
other_counts false net n other = refl

-- past the end none is there
pub times_past : (p : ℕ → Bool) (net n : ℕ) → n ≤ net → times net (filter p (range_with_len 0 n)) ≡ 0
times_past p net zero past = refl
times_past p net (suc n) past =
    let more : suc n ≡ n + 1 = omega arith in
    let new = other_counts (p n) net n (λ same. omega (arith, same, past)) in
    ap (λ k. times net (filter p (range_with_len 0 k))) more ∙ times_more p net n ∙ omega (arith, new, times_past p net n (omega (arith, past)))

-- each number before the end that passes is there once
pub times_within : (p : ℕ → Bool) (net n : ℕ) → net < n → times net (filter p (range_with_len 0 n)) ≡ cond (p net) 1 0
times_within p net zero within = absurd (omega (arith, within))
times_within p net (suc n) within =
    let more : suc n ≡ n + 1 = omega arith in
    ap (λ k. times net (filter p (range_with_len 0 k))) more ∙ times_more p net n ∙ ⊎_elim
    (λ early.
    let new = other_counts (p n) net n (λ same. omega (arith, same, early)) in
    omega (arith, new, times_within p net n early))
    (λ late.
    let same : n ≡ net = omega (arith, late, within) in
    let here = ap (λ k. cond (p k) (the_count (k == net)) 0) same ∙ ap (λ k. cond (p net) (the_count k) 0) (eq-eqb net net refl) in
    omega (arith, here, times_past p net n late))
    (cases_lt net n)
