-- Marks on the nets of a list, and tests of the numbers below a bound.
use Rattle.std.proofs.Common.{◌≡◌, ℕ, ◌+◌, ◌==◌, ◌<◌, ◌||◌, Bool, true, false, List, length, get_or, replicate, set, take, refl, sym, ap, ◌∙◌, arith, inl, inr, length-set}
use Rattle.std.proofs.lemmas.Bool.{cases_eq, eq-eqb}
use Rattle.std.proofs.lemmas.List.{get_or-replicate, get_or-set_same, get_or-set_other, length-replicate}
use Rattle.std.proofs.lemmas.List.Folds.{list_any_more}
use Rattle.netlist.specs.Marks.{is_seen}
use Rattle.netlist.proofs.CallerLemmas.{test_fails}
use Rattle.plain_runs.specs.Unused.{is_among, AreMarks}

pub or_false : (b : Bool) → (b || false) ≡ b
or_false true = refl
or_false false = refl

pub or_true : (b : Bool) → (b || true) ≡ true
or_true true = refl
or_true false = refl

-- one number more is marked
pub AreMarks-more : (nets : ℕ) (numbers : List ℕ) (marks : List Bool) (i : ℕ) → i < length numbers → get_or numbers i 0 < nets →
    AreMarks nets (take i numbers) marks → AreMarks nets (take (i + 1) numbers) (set marks (get_or numbers i 0) true)
AreMarks-more nets numbers marks i within below old = record {
  size = length-set marks (get_or numbers i 0) true ∙ old.size;
  each = λ net inside. elim (cases_eq net (get_or numbers i 0)) [
    | inl same ↦
        ap (is_seen (set marks (get_or numbers i 0) true)) same
        ∙ get_or-set_same marks (get_or numbers i 0) true false (omega (arith, below, old.size))
        ∙ sym (list_any_more (λ other. other == net) numbers i 0 within
        ∙ ap (λ found. is_among net (take i numbers) || found) (eq-eqb (get_or numbers i 0) net (sym same))
        ∙ or_true (is_among net (take i numbers)))
    | inr apart ↦
        get_or-set_other marks (get_or numbers i 0) net true false apart
        ∙ old.each net inside
        ∙ sym (list_any_more (λ other. other == net) numbers i 0 within
        ∙ ap (λ found. is_among net (take i numbers) || found) (test_fails (get_or numbers i 0) net (λ same. apart (sym same)))
        ∙ or_false (is_among net (take i numbers)))
  ];
}

-- at first none is
pub AreMarks-none : (nets : ℕ) (numbers : List ℕ) → AreMarks nets (take 0 numbers) (replicate nets false)
AreMarks-none nets numbers = record {
  size = length-replicate nets false;
  each = λ net inside. get_or-replicate nets net false false inside;
}
