-- Marks and levels that change at one net.
use Rattle.std.proofs.Common.{◌≡◌, ℕ, zero, suc, ◌+◌, ◌==◌, ◌<◌, not, Bool, false, cond, IsTrue, List, count_by, length, get_or, set, refl, sym, ap, ◌∙◌, arith, ◌⊎◌, inl, inr}
use Rattle.std.proofs.lemmas.Bool.Decides.{nat_tests}
use Rattle.std.proofs.lemmas.List.{get_or_default}
use Rattle.std.proofs.lemmas.List.Sums.{sum_by-set}
use Rattle.netlist.specs.Marks.{is_seen}
use Rattle.circuit_info.specs.Levels.{level_at}

-- the number of gates that have a level
abbrev pub levelled : List ℕ → ℕ
levelled levels = count_by (λ level. not (level == 0)) levels

pub cases_zero : (n : ℕ) → (n ≡ 0) ⊎ (0 < n)
cases_zero zero = inl refl
cases_zero (suc n) = inr (omega arith)

pub zero_test : (n : ℕ) → 0 < n → (n == 0) ≡ false
zero_test n some = grind (arith, nat_tests)

pub one_more_level : (levels : List ℕ) (net level : ℕ) → net < length levels → level_at levels net ≡ 0 → 0 < level →
    levelled (set levels net level) ≡ levelled levels + 1
one_more_level levels net level below none some =
    let old = ap (λ n. levelled (set levels net level) + cond (not (n == 0)) 1 0) (sym none) in
    let new = ap (λ test. levelled levels + cond (not test) 1 0) (zero_test level some) in
    let one = old ∙ sum_by-set (λ n. cond (not (n == 0)) 1 0) levels net level 0 below ∙ new in
    omega (arith, one)

-- what is read at an index
pub read_true : (seen : List Bool) (net : ℕ) (mark : Bool) → mark ≡ get_or seen net mark → IsTrue mark → net < length seen → IsTrue (is_seen seen net)
read_true seen net mark read is below = get_or_default seen net false mark below ∙ sym read ∙ is

pub read_false : (seen : List Bool) (net : ℕ) (mark : Bool) → mark ≡ get_or seen net mark → mark ≡ false → is_seen seen net ≡ false
read_false seen net mark read is = ap (λ mark. get_or seen net mark) (sym is) ∙ sym read ∙ is
