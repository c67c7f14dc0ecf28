-- Places among numbers that rise.
use Rattle.std.proofs.Common.{◌≡◌, ◌≢◌, ℕ, zero, suc, ◌+◌, ◌-◌, ◌==◌, ◌<◌, ◌≤◌, nat_lt, true, false, List, [], ◌∷◌, length, get_or, drop, map, All, AllPairs, Contains, ◌⊎◌, inl, inr, sym, ap, ◌∙◌, arith}
use Rattle.std.specs.List.{sum_by}
use Rattle.std.specs.List.Sorted.{IsPartitionPoint}
use Rattle.std.proofs.lemmas.Bool.{cases_lt}
use Rattle.std.proofs.lemmas.Bool.Decides.{nat_tests}
use Rattle.std.proofs.lemmas.List.{get_or-map, get_or_default, length-map, drop-drop}
use Rattle.std.proofs.lemmas.List.Elements.{All-head, All-tail, All-weaker}
use Rattle.std.proofs.lemmas.List.Sums.{position_or_len_is, sum_by-cons, sum_by-drop_more, sum_by-take-drop}
use Rattle.logic3.specs.Rising.{Rises}
use Rattle.netlist.specs.Pick.{place_in}
use Rattle.netlist.proofs.Distinct.{AllPairs-head, AllPairs-tail}

-- a number is no less than its place
place-le : (keep : List ℕ) → Rises keep → (k : ℕ) → k < length keep → k ≤ get_or keep k 0
place-le keep rising zero inside = omega arith
place-le keep rising (suc k) inside =
    let below : get_or keep k 0 < get_or keep (suc k) 0 = rising k (suc k) 0 (omega arith) inside in
    omega (arith, place-le keep rising k (omega arith))

module _ (keep : List ℕ) (rising : Rises keep) where
  -- the number at a place stands first there
  place_in-at : (k number : ℕ) → k < length keep → get_or keep k 0 ≡ number → place_in keep number ≡ k
  place_in-at k number inside is =
      position_or_len_is (λ kept. kept == number) keep k 0 (omega arith)
      (λ j before.
      let below : get_or keep j 0 < get_or keep k 0 = rising j k 0 before inside in
      let other : get_or keep j 0 ≢ number = omega arith in
      grind (arith, nat_tests))
      (λ _. grind (arith, nat_tests))

  module _ (number : ℕ) (kept : Contains keep number) where
    at-0 : get_or keep kept.0 0 ≡ number
    at-0 = get_or_default keep kept.0 0 number kept.1 ∙ kept.2

    is-at : place_in keep number ≡ kept.0
    is-at = place_in-at kept.0 number kept.1 at-0

    pub place_in-within : place_in keep number < length keep
    place_in-within = omega (arith, is-at, kept.1)

    pub get_or-place_in : get_or keep (place_in keep number) 0 ≡ number
    get_or-place_in = ap (λ k. get_or keep k 0) is-at ∙ at-0

    pub place_in-le : place_in keep number ≤ number
    place_in-le = omega (arith, place-le keep rising (place_in keep number) place_in-within, get_or-place_in)

    -- what halving finds
    pub place_in-partition : (point : ℕ) → point ≤ length keep →
        IsPartitionPoint (λ kept. nat_lt kept number ≡ true) (λ kept. nat_lt kept number ≡ false) keep point → point ≡ place_in keep number
    place_in-partition point inside at = go (cases_lt kept.0 point) (cases_lt point kept.0) ∙ sym is-at
      where
        go : (kept.0 < point) ⊎ (point ≤ kept.0) → (point < kept.0) ⊎ (kept.0 ≤ point) → point ≡ kept.0
        go (inl past) _ =
            let under : nat_lt (get_or keep kept.0 0) number ≡ true = at.0 kept.0 0 (omega arith) past in
            absurd (grind (arith, nat_tests, at-0))
        go (inr low) (inl less) =
            let below : get_or keep point 0 < get_or keep kept.0 0 = rising point kept.0 0 less kept.1 in
            let over : nat_lt (get_or keep point 0) number ≡ false = at.1 point 0 (omega arith) (omega (arith, kept.1)) in
            absurd (grind (arith, nat_tests, at-0))
        go (inr low) (inr high) = omega arith

-- numbers that differ have places that differ
pub AllPairs-places : (keep numbers : List ℕ) → Rises keep → All (Contains keep) numbers → AllPairs (λ (earlier later : ℕ). earlier ≢ later) numbers →
    AllPairs (λ (earlier later : ℕ). earlier ≢ later) (map (place_in keep) numbers)
AllPairs-places keep numbers rising kept differ i j d before within same =
    let last : j < length numbers = omega (arith, within, length-map numbers (place_in keep)) in
    let first : i < length numbers = omega arith in
    let one_place : place_in keep (get_or numbers i 0) ≡ place_in keep (get_or numbers j 0) =
    sym (get_or-map (place_in keep) numbers i 0 d first) ∙ same ∙ get_or-map (place_in keep) numbers j 0 d last in
    differ i j 0 before last
    (sym (get_or-place_in keep rising (get_or numbers i 0) (kept i 0 first)) ∙ ap (λ k. get_or keep k 0) one_place
    ∙ get_or-place_in keep rising (get_or numbers j 0) (kept j 0 last))

-- numbers that rise below a bound are no more than that
pub length-rising : (keep : List ℕ) (bound : ℕ) → Rises keep → All (λ n. n < bound) keep → length keep ≤ bound
length-rising [] bound rising below = omega arith
length-rising (n ∷ keep) bound rising below =
    let last : get_or (n ∷ keep) (length keep) 0 < bound = below (length keep) 0 (omega arith) in
    omega (arith, place-le (n ∷ keep) rising (length keep) (omega arith))

-- a sum over places that rise is no more than that over all
module _ {A : Type 0} (size : A → ℕ) (xs : List A) (d : A) where
  sum_by-drop-le : (low more : ℕ) → sum_by size (drop (low + more) xs) ≤ sum_by size (drop low xs)
  sum_by-drop-le low more =
      omega (arith, ap (sum_by size) (drop-drop more low xs), sum_by-take-drop size (drop low xs) more)

  sum_by-from : (low : ℕ) (keep : List ℕ) → Rises keep → All (λ n. low ≤ n) keep → All (λ n. n < length xs) keep →
      sum_by (λ n. size (get_or xs n d)) keep ≤ sum_by size (drop low xs)
  sum_by-from low [] rising above below = omega arith
  sum_by-from low (n ∷ keep) rising above below =
      let R = λ (earlier later : ℕ). earlier < later in
      let Inside = λ (m : ℕ). m < length xs in
      let here : low ≤ n = All-head (λ n. low ≤ n) n keep above in
      let past : All (λ m. n + 1 ≤ m) keep = All-weaker (λ m. n < m) (λ m. n + 1 ≤ m) (λ m over. omega arith) keep (AllPairs-head R n keep rising) in
      let skipped : low + (n - low) ≡ n = omega arith in
      omega (
        arith,
        sum_by-cons (λ n. size (get_or xs n d)) n keep,
        sum_by-from (n + 1) keep (AllPairs-tail R n keep rising) past (All-tail Inside n keep below),
        sum_by-drop_more size xs n d (All-head Inside n keep below),
        rw skipped at (sum_by-drop-le low (n - low)),
      )

  pub sum_by-rising : (keep : List ℕ) → Rises keep → All (λ n. n < length xs) keep → sum_by (λ n. size (get_or xs n d)) keep ≤ sum_by size xs
  sum_by-rising keep rising below = sum_by-from 0 keep rising (λ k d inside. omega arith) below
