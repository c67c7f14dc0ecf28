-- What a process keeps of what it received.
use Rattle.std.proofs.Common.{◌≡◌, ◌≢◌, ℕ, zero, suc, ◌+◌, ◌<◌, ◌≤◌, List, [], ◌∷◌, length, get_or, Some, slice_get, slice_set, refl, ap, sym, subst, ◌∙◌, arith, ◌⊎◌, inl, inr}
use Rattle.std.proofs.lemmas.Bool.{cases_lt}
use Rattle.std.proofs.lemmas.List.{length-set}
use Rattle.std.proofs.lemmas.Option.{same_Some, slice_get_read}
use Rattle.design.specs.Circuit.{Net}
use Rattle.gate_process.specs.Knowledge.{Knowledge, kept_since, keeping}
use Rattle.gate_process.specs.Step.{ProcessState, oldest_asked, kept_from, kept, all_kept}

-- as more of the pin is known
pub kept_later : (process : ProcessState) (place early late : ℕ) → early ≤ late → kept_from process place early ≤ kept_from process place late
kept_later process place early late h = less (oldest_asked process.net place process.known.frontier) early late h
  where
    less : (oldest r s : ℕ) → r ≤ s → kept_since oldest r ≤ kept_since oldest s
    less oldest r s h = omega arith

-- as the net is known farther
pub kept_farther : (process farther : ProcessState) (place frontier : ℕ) → process.net ≡ farther.net →
    process.known.frontier ≤ farther.known.frontier → kept_from process place frontier ≤ kept_from farther place frontier
kept_farther process farther place frontier same h =
    subst (λ (net : Net). kept_from process place frontier ≤ kept_since (oldest_asked net place farther.known.frontier) frontier) same
    (less (oldest_asked process.net place process.known.frontier) (oldest_asked process.net place farther.known.frontier) frontier (omega arith))
  where
    less : (a b r : ℕ) → a ≤ b → kept_since a r ≤ kept_since b r
    less a b r h = omega arith

-- ---- at all places

-- where each is kept all are
all_kept_from-each : (process : ProcessState) (first : ℕ) (received now : List Knowledge) → length now ≡ length received →
    ((at : ℕ) (known : Knowledge) → slice_get received at ≡ Some known → slice_get now at ≡ Some (kept process (first + at) known)) →
    now ≡ all_kept process first received
all_kept_from-each process first [] [] long each = refl
all_kept_from-each process first [] (new ∷ now) long each = absurd (omega arith)
all_kept_from-each process first (known ∷ received) [] long each = absurd (omega arith)
all_kept_from-each process first (known ∷ received) (new ∷ now) long each =
    let here : first + 0 ≡ first = omega arith in
    let head = same_Some new (kept process (first + 0) known) (each 0 known refl) ∙ ap (λ place. kept process place known) here in
    let rest = all_kept_from-each process (first + 1) received now (omega arith) (λ at other e.
    let there : first + suc at ≡ first + 1 + at = omega arith in
    each (suc at) other e ∙ ap (λ place. Some (kept process place other)) there) in
    λ i. head i ∷ rest i

pub all_kept-each : (process : ProcessState) (received now : List Knowledge) → length now ≡ length received →
    ((place : ℕ) (known : Knowledge) → slice_get received place ≡ Some known → slice_get now place ≡ Some (kept process place known)) →
    now ≡ all_kept process 0 received
all_kept-each process received now long each =
    all_kept_from-each process 0 received now long (λ at known e.
    let here : at ≡ 0 + at = omega arith in each at known e ∙ ap (λ place. Some (kept process place known)) here)

pub length-all_kept : (process : ProcessState) (place : ℕ) (received : List Knowledge) → length (all_kept process place received) ≡ length received
length-all_kept process place [] = refl
length-all_kept process place (known ∷ received) = ap suc (length-all_kept process (place + 1) received)

-- what is kept at a place was received there
get_of_kept_from : (process : ProcessState) (first : ℕ) (received : List Knowledge) (at : ℕ) (known : Knowledge) →
    slice_get (all_kept process first received) at ≡ Some known →
    (old : Knowledge) × (slice_get received at ≡ Some old) × (known ≡ kept process (first + at) old)
get_of_kept_from process first [] at known e = cc
get_of_kept_from process first (old ∷ received) zero known e =
    let here : first ≡ first + 0 = omega arith in
    (old, refl, sym (same_Some (kept process first old) known e) ∙ ap (λ place. kept process place old) here)
get_of_kept_from process first (old ∷ received) (suc at) known e =
    let rest = get_of_kept_from process (first + 1) received at known e in
    let here : first + 1 + at ≡ first + suc at = omega arith in
    (rest.0, rest.1, rest.2 ∙ ap (λ place. kept process place rest.0) here)

pub get_of_kept : (process : ProcessState) (received : List Knowledge) (at : ℕ) (known : Knowledge) →
    slice_get (all_kept process 0 received) at ≡ Some known →
    (old : Knowledge) × (slice_get received at ≡ Some old) × (known ≡ kept process at old)
get_of_kept process received at known e =
    let found = get_of_kept_from process 0 received at known e in
    let here : 0 + at ≡ at = omega arith in
    (found.0, found.1, found.2 ∙ ap (λ place. kept process place found.0) here)

-- ---- one place after the other

get_of_set_same : (xs : List Knowledge) (place : ℕ) (x : Knowledge) → place < length xs → slice_get (slice_set xs place x) place ≡ Some x
get_of_set_same [] place x inside = absurd (omega arith)
get_of_set_same (first ∷ xs) zero x inside = refl
get_of_set_same (first ∷ xs) (suc place) x inside = get_of_set_same xs place x (omega arith)

get_of_set_other : (xs : List Knowledge) (place : ℕ) (x : Knowledge) (at : ℕ) → at ≢ place → slice_get (slice_set xs place x) at ≡ slice_get xs at
get_of_set_other [] place x at other = refl
get_of_set_other (first ∷ xs) zero x zero other = absurd (other refl)
get_of_set_other (first ∷ xs) zero x (suc at) other = refl
get_of_set_other (first ∷ xs) (suc place) x zero other = refl
get_of_set_other (first ∷ xs) (suc place) x (suc at) other = get_of_set_other xs place x at (λ same. other (ap suc same))

-- those before a place keep what they must, and the others are as they were
pub record KeptBelow (net : Net) (frontier : ℕ) (start : List Knowledge) (place : ℕ) (now : List Knowledge) : Type 0 where
  pub count : length now ≡ length start
  pub below : (at : ℕ) (known : Knowledge) → at < place → slice_get start at ≡ Some known →
      slice_get now at ≡ Some (keeping (oldest_asked net at frontier) known)
  pub others : (at : ℕ) → place ≤ at → slice_get now at ≡ slice_get start at

-- one place more
pub kept-more : (net : Net) (frontier : ℕ) (start : List Knowledge) (place : ℕ) (now : List Knowledge) (pin new : Knowledge) →
    KeptBelow net frontier start place now → place < length start → pin ≡ get_or now place pin →
    new ≡ keeping (oldest_asked net place frontier) pin → KeptBelow net frontier start (place + 1) (slice_set now place new)
kept-more net frontier start place now pin new so_far inside is new_is = record {
  count = length-set now place new ∙ so_far.count;
  below = λ at known below e. go at known e (cases_lt at place) below;
  others = λ at late. get_of_set_other now place new at (λ same. omega arith) ∙ so_far.others at (omega arith);
}
  where
    within : place < length now
    within = let count = so_far.count in omega arith

    stands : slice_get now place ≡ Some pin
    stands = slice_get_read now (length now) place pin refl within is

    go : (at : ℕ) (known : Knowledge) → slice_get start at ≡ Some known → (at < place) ⊎ (place ≤ at) → at < place + 1 →
        slice_get (slice_set now place new) at ≡ Some (keeping (oldest_asked net at frontier) known)
    go at known e (inl early) below =
        get_of_set_other now place new at (λ same. omega arith) ∙ so_far.below at known early e
    go at known e (inr late) below =
        let here : place ≡ at = omega arith in
        let same : pin ≡ known =
        same_Some pin known (sym stands ∙ so_far.others place (omega arith) ∙ ap (slice_get start) here ∙ e) in
        ap (slice_get (slice_set now place new)) (sym here) ∙ get_of_set_same now place new within
        ∙ (λ i. Some (new_is i)) ∙ (λ i. Some (keeping (oldest_asked net (here i) frontier) (same i)))
