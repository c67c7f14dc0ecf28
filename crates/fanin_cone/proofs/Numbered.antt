-- The numbers of marks, collected in order.
use Rattle.std.proofs.Common.{◌≡◌, ℕ, ◌+◌, ◌<◌, Bool, true, false, List, [], ◌∷◌, ◌++◌, sym, ap, ◌∙◌, subst, arith, All, Contains, IsTrue, ◌↔◌, true≢false, ⊎_elim}
use Rattle.std.proofs.lemmas.Bool.{cases_lt}
use Rattle.std.proofs.lemmas.List.Quantifiers.{all_pairs_push}
use Rattle.std.proofs.lemmas.List.Elements.{All-push, All-weaker, Contains-append_left, Contains-push, Contains-push_cases}
use Rattle.logic3.specs.Rising.{Rises}
use Rattle.fanin_cone.specs.Walk.{is_marked}

-- the numbers of the marks before a place, rising
pub record IsNumbered (marks : List Bool) (to : ℕ) (numbers : List ℕ) : Type 0 where
  pub rising : Rises numbers
  pub below : All (λ n. n < to) numbers
  pub marked : (n : ℕ) → Contains numbers n ↔ ((n < to) × IsTrue (is_marked marks n))

module _ (marks : List Bool) (to : ℕ) (numbers : List ℕ) (known : IsNumbered marks to numbers) where
  pub IsNumbered-marked : is_marked marks to ≡ true → IsNumbered marks (to + 1) (numbers ++ to ∷ [])
  IsNumbered-marked is = record {
    rising = all_pairs_push (λ earlier later. earlier < later) numbers to known.rising known.below;
    below = All-push (λ n. n < to + 1) numbers to (All-weaker (λ n. n < to) (λ n. n < to + 1) (λ n less. omega arith) numbers known.below) (omega arith);
    marked = λ n. (
      λ at. ⊎_elim
          (λ earlier. let was = (known.marked n).0 earlier in (omega (arith, was.0), was.1))
          (λ same. (omega arith, ap (is_marked marks) (sym same) ∙ is))
          (Contains-push_cases numbers to n at),
      λ is_there. ⊎_elim
          (λ less. Contains-append_left numbers (to ∷ []) n ((known.marked n).1 (less, is_there.1)))
          (λ past. let same : to ≡ n = omega (arith, is_there.0) in subst (Contains (numbers ++ to ∷ [])) same (Contains-push numbers to))
          (cases_lt n to),
    );
  }

  pub IsNumbered-unmarked : is_marked marks to ≡ false → IsNumbered marks (to + 1) numbers
  IsNumbered-unmarked not_there = record {
    rising = known.rising;
    below = All-weaker (λ n. n < to) (λ n. n < to + 1) (λ n less. omega arith) numbers known.below;
    marked = λ n. (
      λ at. let was = (known.marked n).0 at in (omega (arith, was.0), was.1),
      λ is_there. ⊎_elim
          (λ less. (known.marked n).1 (less, is_there.1))
          (λ past. let same : to ≡ n = omega (arith, is_there.0) in
          absurd (true≢false (sym is_there.1 ∙ ap (is_marked marks) (sym same) ∙ not_there)))
          (cases_lt n to),
    );
  }
