-- The nets that aren't among some, found by marks.
use Rattle.std.proofs.Common.{◌≡◌, ℕ, ◌+◌, ◌<◌, Bool, true, false, List, [], ◌∷◌, ◌++◌, get_or, All, Contains, refl, sym, ap, subst, ◌∙◌, arith, true≢false, ⊎_elim, ◌⊎◌, inl, inr}
use Rattle.std.proofs.lemmas.Bool.{cases_lt}
use Rattle.std.proofs.lemmas.List.Elements.{All-contains_itself, Contains-append_left, Contains-push, Contains-push_cases}
use Rattle.std.proofs.lemmas.List.Quantifiers.{all_pairs_push}
use Rattle.std.proofs.lemmas.Map.Views.{Contains-from_any, exact_unsigned_eq}
use Rattle.prepared_runs.specs.Marked.{is_among}
use Rattle.kernel_runs.specs.Drained.{IsRest}

module _ (nets : List ℕ) (to : ℕ) (rest : List ℕ) (known : IsRest to nets rest) where
  below : All (λ net. net < to) rest
  below = λ k d inside. ((known.others (get_or rest k d)).0 (All-contains_itself rest k d inside)).0

  -- the next net isn't among them
  pub IsRest-more : is_among nets to ≡ false → IsRest (to + 1) nets (rest ++ to ∷ [])
  IsRest-more apart = record {
    rising = all_pairs_push (λ earlier later. earlier < later) rest to known.rising below;
    others = λ net. (
      λ at. ⊎_elim
          (λ earlier. let was = (known.others net).0 earlier in (omega (arith, was.0), was.1))
          (λ same. (omega arith, ap (is_among nets) (sym same) ∙ apart))
          (Contains-push_cases rest to net at),
      λ is_other. ⊎_elim
          (λ less. Contains-append_left rest (to ∷ []) net ((known.others net).1 (less, is_other.1)))
          (λ past. let same : to ≡ net = omega (arith, is_other.0) in subst (Contains (rest ++ to ∷ [])) same (Contains-push rest to))
          (cases_lt net to),
    );
  }

  -- the next net is among them
  pub IsRest-same : is_among nets to ≡ true → IsRest (to + 1) nets rest
  IsRest-same among = record {
    rising = known.rising;
    others = λ net. (
      λ at. let was = (known.others net).0 at in (omega (arith, was.0), was.1),
      λ is_other. ⊎_elim
          (λ less. (known.others net).1 (less, is_other.1))
          (λ past. let same : to ≡ net = omega (arith, is_other.0) in
          absurd (true≢false (sym among ∙ ap (is_among nets) same ∙ is_other.1)))
          (cases_lt net to),
    );
  }

-- none of no nets
pub IsRest-none : (nets : List ℕ) → IsRest 0 nets []
IsRest-none nets = record {
  rising = λ i j d less inside. absurd (omega (arith, inside));
  others = λ net. (λ at. absurd (omega (arith, at.1)), λ is_other. absurd (omega (arith, is_other.0)));
}

-- the others are nets
pub IsRest-below : (count : ℕ) (nets rest : List ℕ) → IsRest count nets rest → All (λ net. net < count) rest
IsRest-below count nets rest known = below nets count rest known

-- each net is among them or one of the others
pub among_or_rest : (count : ℕ) (nets rest : List ℕ) → IsRest count nets rest → (net : ℕ) → net < count → Contains nets net ⊎ Contains rest net
among_or_rest count nets rest known net inside = go (is_among nets net) refl
  where
    go : (among : Bool) → is_among nets net ≡ among → Contains nets net ⊎ Contains rest net
    go true e = inl (Contains-from_any exact_unsigned_eq net nets e)
    go false e = inr ((known.others net).1 (inside, e))
