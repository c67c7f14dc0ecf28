-- Which fronts of a line some form takes.
use Rattle.std.proofs.Common.{◌≡◌, ℕ, zero, suc, ◌+◌, ◌<◌, ◌≤◌, ◌||◌, Bool, true, false, List, [], ◌∷◌, length, take, Option, None, Some, refl, arith}
use Rattle.std.specs.Bool.{nat_lt}
use Rattle.std.specs.Option.{option_map_or}
use Rattle.std.proofs.lemmas.Bool.Decides.{nat_tests}
use Rattle.mistakes.specs.Forms.{Slot, next}
use Rattle.mistakes.specs.Fronts.{begins, begins_some}
use Rattle.mistakes.specs.Places.{place_of, taken}

-- a row takes each front up to the tokens that it takes
begins-within : (row : List Slot) (tokens : List (List ℕ)) (n : ℕ) → n ≤ taken row tokens → begins row (take n tokens) ≡ true
begins-within row tokens zero within = refl
begins-within row [] (suc n) within = absurd (omega arith)
begins-within row (token ∷ tokens) (suc n) within = go (next row token) within (λ after. begins-within after tokens n)
  where
    go : (left : Option (List Slot)) → suc n ≤ option_map_or (λ after. taken after tokens + 1) left 0 →
        ((after : List Slot) → n ≤ taken after tokens → begins after (take n tokens) ≡ true) →
        option_map_or (λ after. begins after (take n tokens)) left false ≡ true
    go None within rest = absurd (omega arith)
    go (Some after) within rest = rest after (omega arith)

-- and no longer one
begins-past : (row : List Slot) (tokens : List (List ℕ)) (n : ℕ) → taken row tokens < n → n ≤ length tokens → begins row (take n tokens) ≡ false
begins-past row tokens zero past within = absurd (omega arith)
begins-past row [] (suc n) past within = absurd (omega arith)
begins-past row (token ∷ tokens) (suc n) past within = go (next row token) past (λ after stops. begins-past after tokens n stops (omega arith))
  where
    go : (left : Option (List Slot)) → option_map_or (λ after. taken after tokens + 1) left 0 < suc n →
        ((after : List Slot) → taken after tokens < n → begins after (take n tokens) ≡ false) →
        option_map_or (λ after. begins after (take n tokens)) left false ≡ false
    go None past rest = refl
    go (Some after) past rest = rest after (omega arith)

pub begins_some-within : (forms : List (List Slot)) (tokens : List (List ℕ)) (n : ℕ) → 0 < length forms → n ≤ place_of forms tokens →
    begins_some forms (take n tokens) ≡ true
begins_some-within [] tokens n some within = absurd (omega arith)
begins_some-within (row ∷ []) tokens n some within = rw (begins-within row tokens n (omega arith)) refl
begins_some-within (row ∷ other ∷ forms) tokens n some within =
    go (nat_lt (taken row tokens) n) refl (λ rest. begins_some-within (other ∷ forms) tokens n (omega arith) rest)
  where
    or-true : (b : Bool) → (b || true) ≡ true
    or-true true = refl
    or-true false = refl

    go : (past : Bool) → nat_lt (taken row tokens) n ≡ past →
        (n ≤ place_of (other ∷ forms) tokens → begins_some (other ∷ forms) (take n tokens) ≡ true) →
        (begins row (take n tokens) || begins_some (other ∷ forms) (take n tokens)) ≡ true
    go true past rest =
        let later : n ≤ place_of (other ∷ forms) tokens = grind (arith, nat_tests) in
        rw (rest later) (or-true (begins row (take n tokens)))
    go false past rest =
        let here : n ≤ taken row tokens = grind (arith, nat_tests) in
        rw (begins-within row tokens n here) refl

pub begins_some-past : (forms : List (List Slot)) (tokens : List (List ℕ)) (n : ℕ) → place_of forms tokens < n → n ≤ length tokens →
    begins_some forms (take n tokens) ≡ false
begins_some-past [] tokens n past within = refl
begins_some-past (row ∷ forms) tokens n past within =
    rw (begins-past row tokens n (omega arith) within, begins_some-past forms tokens n (omega arith) within) refl
