-- One mark more.
use Rattle.std.proofs.Common.{◌≡◌, ℕ, ◌+◌, ◌<◌, not, Bool, true, false, cond, IsTrue, List, length, set, sym, ap, ◌∙◌, arith, ◌⊎◌, inl, inr}
use Rattle.std.proofs.lemmas.Bool.{cases_eq}
use Rattle.std.proofs.lemmas.List.{get_or-set_same, get_or-set_other}
use Rattle.std.proofs.lemmas.List.Sums.{sum_by-set}
use Rattle.netlist.specs.Marks.{is_seen, unseen, KeepsSeen}

pub seen_now : (seen : List Bool) (net : ℕ) → net < length seen → IsTrue (is_seen (set seen net true) net)
seen_now seen net below = get_or-set_same seen net true false below

pub seen_still : (seen : List Bool) (net : ℕ) → net < length seen → KeepsSeen seen (set seen net true)
seen_still seen net below other was = elim (cases_eq other net) [
  | inl same ↦ ap (is_seen (set seen net true)) same ∙ seen_now seen net below
  | inr apart ↦ get_or-set_other seen net other true false apart ∙ was
]

pub seen_cases : (seen : List Bool) (net other : ℕ) → IsTrue (is_seen (set seen net true) other) → (other ≡ net) ⊎ IsTrue (is_seen seen other)
seen_cases seen net other is = elim (cases_eq other net) [
  | inl same ↦ inl same
  | inr apart ↦ inr (sym (get_or-set_other seen net other true false apart) ∙ is)
]

pub fewer_unseen : (seen : List Bool) (net : ℕ) → net < length seen → is_seen seen net ≡ false → unseen (set seen net true) + 1 ≡ unseen seen
fewer_unseen seen net below new =
    let one = ap (λ mark. unseen (set seen net true) + cond (not mark) 1 0) (sym new) ∙ sum_by-set (λ mark. cond (not mark) 1 0) seen net true false below in
    omega (arith, one)
