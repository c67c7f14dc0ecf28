-- Marks on the nets to which lines give delays.
use Rattle.std.proofs.Common.{◌≡◌, ℕ, ◌+◌, ◌==◌, ◌<◌, ◌||◌, Bool, true, false, List, [], length, get_or, set, take, Some, sym, ap, ◌∙◌, arith, inl, inr, length-set}
use Rattle.std.proofs.lemmas.Bool.{cases_eq, eq-eqb}
use Rattle.std.proofs.lemmas.List.{get_or-set_same, get_or-set_other}
use Rattle.std.proofs.lemmas.List.Folds.{list_any_more}
use Rattle.std.proofs.lemmas.Option.{get_or_from_slice_get, slice_get-get_or}
use Rattle.std.specs.List.{list_any}
use Rattle.netlist.proofs.CallerLemmas.{test_fails}
use Rattle.design.specs.Design.{DesignView}
use Rattle.plain_runs.specs.Lines.{MarkDelayed, gives_delay}
use Rattle.plain_runs.proofs.Marked.{or_false, or_true}

module _ (design : DesignView) (lines : List (List ℕ)) (i : ℕ) (marks : List Bool) (within : i < length lines)
    (old : MarkDelayed design (take i lines) marks) where
  abbrev line : List ℕ
  line = get_or lines i []

  so_far : (net : ℕ) → net < length design.circuit → get_or marks net false ≡ list_any (gives_delay design net) (take i lines)
  so_far net inside = get_or_from_slice_get marks net (list_any (gives_delay design net) (take i lines)) false (old.marked net inside)

  more : (net : ℕ) (gives : Bool) → gives_delay design net line ≡ gives →
      list_any (gives_delay design net) (take (i + 1) lines) ≡ (list_any (gives_delay design net) (take i lines) || gives)
  more net gives is =
      list_any_more (gives_delay design net) lines i [] within ∙ ap (λ found. list_any (gives_delay design net) (take i lines) || found) is

  -- a line that gives no net a delay
  pub none_more : ((net : ℕ) → gives_delay design net line ≡ false) → MarkDelayed design (take (i + 1) lines) marks
  none_more none = record {
    count = old.count;
    marked = λ net inside.
        old.marked net inside ∙ ap (λ mark. Some mark) (sym (more net false (none net) ∙ or_false (list_any (gives_delay design net) (take i lines))));
  }

  -- one that gives a net a delay
  pub one_more : (given : ℕ) → given < length design.circuit → ((net : ℕ) → gives_delay design net line ≡ (given == net)) →
      MarkDelayed design (take (i + 1) lines) (set marks given true)
  one_more given below gives = record {
    count = length-set marks given true ∙ old.count;
    marked = λ net inside.
        slice_get-get_or (set marks given true) net false
        (let long = length-set marks given true in let count = old.count in omega (arith, inside, long, count))
        ∙ ap (λ mark. Some mark) (elim (cases_eq net given) [
          | inl same ↦
              ap (λ n. get_or (set marks given true) n false) same
              ∙ get_or-set_same marks given true false (let count = old.count in omega (arith, below, count))
              ∙ sym (more net true (gives net ∙ eq-eqb given net (sym same)) ∙ or_true (list_any (gives_delay design net) (take i lines)))
          | inr apart ↦
              get_or-set_other marks given net true false apart
              ∙ so_far net inside
              ∙ sym (more net false (gives net ∙ test_fails given net (λ same. apart (sym same)))
              ∙ or_false (list_any (gives_delay design net) (take i lines)))
        ]);
  }
