-- Names whose nets are known.
use Rattle.std.proofs.Common.{sym, ◌≡◌, ℕ, zero, suc, ◌+◌, ◌<◌, ◌≤◌, ◌++◌, nat_lt, true, false, List, [], ◌∷◌, length, map, filter_map, get_or, take, None, Some, refl, ap, ◌∙◌, arith, All}
use Rattle.std.specs.List.{position_or_len}
use Rattle.std.specs.Option.{is_none}
use Rattle.std.proofs.lemmas.Bool.Decides.{nat_tests}
use Rattle.std.proofs.lemmas.List.{take_more, map-append}
use Rattle.std.proofs.lemmas.List.Elements.{All-nil, All-cons}
use Rattle.std.proofs.lemmas.List.Folds.{list_any_none}
use Rattle.std.proofs.lemmas.List.Sums.{position_or_len_is}
use Rattle.netlist.specs.Netlist.{NetlistView, net_named, name_at}
use Rattle.netlist.proofs.CallerLemmas.{is_some-position, net_at-named, none_from_is_some}
use Rattle.fanin_cone.specs.Extract.{first_unknown}

-- the names have these numbers
abbrev pub HaveNumbers : NetlistView → List (List ℕ) → List ℕ → Type 0
HaveNumbers netlist names numbers = map (net_named netlist) names ≡ map Some numbers

pub numbers_below : (netlist : NetlistView) (names : List (List ℕ)) (numbers : List ℕ) → HaveNumbers netlist names numbers →
    All (λ n. n < length netlist.nets) numbers
numbers_below netlist [] [] known = All-nil (λ n. n < length netlist.nets)
numbers_below netlist [] (n ∷ numbers) known = absurd (cc)
numbers_below netlist (name ∷ names) [] known = absurd (cc)
numbers_below netlist (name ∷ names) (n ∷ numbers) known =
    let first : net_named netlist name ≡ Some n = cc in
    let rest : HaveNumbers netlist names numbers = cc in
    All-cons (λ n. n < length netlist.nets) n numbers (net_at-named netlist name n first).0 (numbers_below netlist names numbers rest)

pub names_of_numbers : (netlist : NetlistView) (names : List (List ℕ)) (numbers : List ℕ) → HaveNumbers netlist names numbers →
    map (name_at netlist) numbers ≡ names
names_of_numbers netlist [] [] known = refl
names_of_numbers netlist [] (n ∷ numbers) known = absurd (cc)
names_of_numbers netlist (name ∷ names) [] known = absurd (cc)
names_of_numbers netlist (name ∷ names) (n ∷ numbers) known =
    let first : net_named netlist name ≡ Some n = cc in
    let rest : HaveNumbers netlist names numbers = cc in
    rw (names_of_numbers netlist names numbers rest) (ap (λ own. own ∷ names) (net_at-named netlist name n first).1)

pub filter_map-known : (netlist : NetlistView) (names : List (List ℕ)) (numbers : List ℕ) → HaveNumbers netlist names numbers →
    filter_map (net_named netlist) names ≡ numbers
filter_map-known netlist [] [] known = refl
filter_map-known netlist [] (n ∷ numbers) known = absurd (cc)
filter_map-known netlist (name ∷ names) [] known = absurd (cc)
filter_map-known netlist (name ∷ names) (n ∷ numbers) known =
    let first : net_named netlist name ≡ Some n = cc in
    let rest : HaveNumbers netlist names numbers = cc in
    rw first (ap (λ numbers. n ∷ numbers) (filter_map-known netlist names numbers rest))

none_unknown : (netlist : NetlistView) (names : List (List ℕ)) (numbers : List ℕ) → HaveNumbers netlist names numbers →
    All (λ name. is_none (net_named netlist name) ≡ false) names
none_unknown netlist [] numbers known = All-nil (λ name. is_none (net_named netlist name) ≡ false)
none_unknown netlist (name ∷ names) [] known = absurd (cc)
none_unknown netlist (name ∷ names) (n ∷ numbers) known =
    let first : net_named netlist name ≡ Some n = cc in
    let rest : HaveNumbers netlist names numbers = cc in
    All-cons (λ name. is_none (net_named netlist name) ≡ false) name names (ap is_none first) (none_unknown netlist names numbers rest)

pub first_unknown-known : (netlist : NetlistView) (names : List (List ℕ)) (numbers : List ℕ) → HaveNumbers netlist names numbers →
    first_unknown netlist names ≡ None
first_unknown-known netlist names numbers known =
    none_from_is_some (first_unknown netlist names)
    (is_some-position (λ name. is_none (net_named netlist name)) names
    ∙ list_any_none (λ name. is_none (net_named netlist name)) names (none_unknown netlist names numbers known))

-- the names before a place have numbers, and the one there has none
known_before : (netlist : NetlistView) (names : List (List ℕ)) (numbers : List ℕ) (i k : ℕ) (d : List ℕ) → HaveNumbers netlist (take i names) numbers →
    i ≤ length names → k < i → is_none (net_named netlist (get_or names k d)) ≡ false
known_before netlist [] numbers i k d known within before = absurd (omega arith)
known_before netlist (name ∷ names) numbers zero k d known within before = absurd (omega arith)
known_before netlist (name ∷ names) [] (suc i) k d known within before = absurd (cc)
known_before netlist (name ∷ names) (n ∷ numbers) (suc i) zero d known within before =
    let first : net_named netlist name ≡ Some n = cc in ap is_none first
known_before netlist (name ∷ names) (n ∷ numbers) (suc i) (suc k) d known within before =
    let rest : HaveNumbers netlist (take i names) numbers = cc in
    known_before netlist names numbers i k d rest (omega arith) (omega arith)

pub first_unknown-at : (netlist : NetlistView) (names : List (List ℕ)) (numbers : List ℕ) (i : ℕ) (d : List ℕ) → i < length names →
    HaveNumbers netlist (take i names) numbers → net_named netlist (get_or names i d) ≡ None → first_unknown netlist names ≡ Some i
first_unknown-at netlist names numbers i d inside known none =
    let place : position_or_len (λ name. is_none (net_named netlist name)) names ≡ i =
    position_or_len_is (λ name. is_none (net_named netlist name)) names i d (omega arith)
    (λ k before. known_before netlist names numbers i k d known (omega arith) before) (λ _. ap is_none none) in
    let test : nat_lt i (length names) ≡ true = grind (arith, nat_tests) in
    rw (place, test) refl

-- one more name with a number
pub known_more : (netlist : NetlistView) (names : List (List ℕ)) (numbers : List ℕ) (i n : ℕ) (d : List ℕ) → i < length names →
    HaveNumbers netlist (take i names) numbers → net_named netlist (get_or names i d) ≡ Some n →
    HaveNumbers netlist (take (i + 1) names) (numbers ++ n ∷ [])
known_more netlist names numbers i n d inside known found =
    ap (map (net_named netlist)) (take_more names i d inside)
    ∙ map-append (net_named netlist) (take i names) (get_or names i d ∷ [])
    ∙ ap (λ firsts. firsts ++ net_named netlist (get_or names i d) ∷ []) known
    ∙ ap (λ last. map Some numbers ++ last ∷ []) found
    ∙ sym (map-append Some numbers (n ∷ []))
