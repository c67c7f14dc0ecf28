-- How often a number is in a list.
use Rattle.std.proofs.Common.{◌≡◌, ◌≢◌, ℕ, suc, ◌+◌, ◌==◌, ◌<◌, ◌≤◌, Bool, true, false, cond, List, [], ◌∷◌, ◌++◌, get_or, take, refl, sym, ap, ◌∙◌, arith, AllPairs, Contains}
use Rattle.std.proofs.lemmas.Bool.{eqb-true, eq-eqb, eqb-false}
use Rattle.std.proofs.lemmas.Bool.Decides.{nat_tests}
use Rattle.std.proofs.lemmas.List.{get_or_default, get_or-take, length-take-le}
use Rattle.std.proofs.lemmas.List.Sums.{sum_by-cons, sum_by-append, sum_by_push, sum_by_more, sum_by-take-le, get_or-le-sum_by}
use Rattle.netlist.specs.Repeats.{times}

pub test_fails : (m n : ℕ) → m ≢ n → (m == n) ≡ false
test_fails m n other = grind (arith, nat_tests)

pub other_way : (m n : ℕ) → (m == n) ≡ false → (n == m) ≡ false
other_way m n e = go (n == m) refl
  where
    go : (same : Bool) → (n == m) ≡ same → same ≡ false
    go true same = absurd (eqb-false m n e (sym (eqb-true n m same)))
    go false same = refl

-- how often a net stands in a list of one
abbrev pub the_count : Bool → ℕ
the_count same = cond same 1 0

abbrev stands : ℕ → ℕ → ℕ
stands net other = the_count (other == net)

stands_itself : (net : ℕ) → stands net net ≡ 1
stands_itself net = ap (λ same. cond same 1 0) (eq-eqb net net refl)

pub times-append : (net : ℕ) (xs ys : List ℕ) → times net (xs ++ ys) ≡ times net xs + times net ys
times-append net xs ys = sum_by-append (stands net) xs ys

pub times_push : (net : ℕ) (xs : List ℕ) (x : ℕ) → times net (xs ++ x ∷ []) ≡ times net xs + cond (x == net) 1 0
times_push net xs x = sum_by_push (stands net) xs x

pub some_time : (net : ℕ) (xs : List ℕ) → Contains xs net → 0 < times net xs
some_time net xs (k, below, is) =
    let least = get_or-le-sum_by (stands net) xs k net below in
    let one = ap (stands net) is ∙ stands_itself net in
    omega (arith, least, one)

pub contains_from_times : (net : ℕ) (xs : List ℕ) → 0 < times net xs → Contains xs net
contains_from_times net [] some = absurd (omega (arith, some))
contains_from_times net (x ∷ xs) some = go (x == net) refl (contains_from_times net xs)
  where
    go : (same : Bool) → (x == net) ≡ same → (0 < times net xs → Contains xs net) → Contains (x ∷ xs) net
    go true e later = (0, omega arith, eqb-true x net e)
    go false e later =
        let count = sum_by-cons (stands net) x xs ∙ ap (λ same. cond same 1 0 + times net xs) e in
        let rest = later (omega (arith, some, count)) in
        (suc rest.0, omega (arith, rest.1), rest.2)

-- where none stands twice, those at two places differ
pub once_from_times : (xs : List ℕ) → ((net : ℕ) → times net xs ≤ 1) → AllPairs (λ (earlier later : ℕ). earlier ≢ later) xs
once_from_times xs most i j d before below same =
    let net = get_or xs j d in
    let first : 0 < times net (take j xs) =
    some_time net (take j xs) (
      i,
      rw (length-take-le j xs (omega (arith, below))) before,
      get_or-take j xs i net before ∙ get_or_default xs i net d (omega (arith, before, below)) ∙ same,
    ) in
    let one = sum_by_more (stands net) xs j d below ∙ ap (λ n. times net (take j xs) + n) (stands_itself net) in
    let within = sum_by-take-le (stands net) xs (j + 1) in
    omega (arith, first, one, within, most net)
