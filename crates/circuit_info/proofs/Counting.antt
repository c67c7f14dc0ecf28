-- Counts of the pins of all nets.
use Rattle.std.proofs.Common.{◌≡◌, ℕ, ◌+◌, ◌<◌, ◌≤◌, ◌==◌, List, length, get_or, set, take, sym, ap, ◌∙◌, arith, inl, inr, refl}
use Rattle.std.proofs.lemmas.Bool.{cases_eq, eq-eqb}
use Rattle.std.proofs.lemmas.List.{get_or-set_same, get_or-set_other, length-take-le}
use Rattle.std.proofs.lemmas.List.Sums.{count_by-le-length, count_by_more_yes, count_by_more_no}
use Rattle.netlist.specs.Repeats.{times}
use Rattle.netlist.proofs.CallerLemmas.{test_fails}

pub few_times : (net : ℕ) (pins : List ℕ) (i : ℕ) → i ≤ length pins → times net (take i pins) ≤ i
few_times net pins i within = omega (arith, count_by-le-length (λ pin. pin == net) (take i pins), length-take-le i pins within)

-- the pin at hand is counted
pub counted_more : (counts pins : List ℕ) (i : ℕ) → i < length pins → get_or pins i 0 < length counts →
    ((net : ℕ) → net < length counts → get_or counts net 0 ≡ times net (take i pins)) → (net : ℕ) → net < length counts →
    get_or (set counts (get_or pins i 0) (get_or counts (get_or pins i 0) 0 + 1)) net 0 ≡ times net (take (i + 1) pins)
counted_more counts pins i within below each net inside = elim (cases_eq (get_or pins i 0) net) [
  | inl same ↦
      ap (λ n. get_or (set counts (get_or pins i 0) (get_or counts (get_or pins i 0) 0 + 1)) n 0) (sym same)
      ∙ get_or-set_same counts (get_or pins i 0) _ 0 below
      ∙ ap (λ n. n + 1) (ap (λ n. get_or counts n 0) same ∙ each net inside)
      ∙ sym (count_by_more_yes (λ pin. pin == net) pins i 0 within (ap (λ n. n == net) same ∙ eq-eqb net net refl))
  | inr apart ↦
      get_or-set_other counts (get_or pins i 0) net _ 0 (λ same. apart (sym same))
      ∙ each net inside
      ∙ sym (count_by_more_no (λ pin. pin == net) pins i 0 within (test_fails (get_or pins i 0) net apart))
]
