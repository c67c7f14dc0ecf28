use Rattle.std.proofs.Common.{◌≡◌, ℕ, ◌+◌, ◌<◌, List, [], ◌∷◌, ◌++◌, All, sym, subst, arith, ◌⊎◌, inl, inr}
use Rattle.std.specs.List.{Contains}
use Rattle.std.proofs.lemmas.Bool.{cases_eq}
use Rattle.std.proofs.lemmas.List.Elements.{All-append, All-cons, All-nil, Contains-append_left, Contains-push}
use Rattle.kernel_uses.proofs.work_lists.all_nets.Goals as goal

-- one number more
one_more : (nets : List ℕ) (net : ℕ) → ((k : ℕ) → k < net → Contains nets k) → (other : ℕ) → other < net + 1 → Contains (nets ++ net ∷ []) other
one_more nets net all other below = go (cases_eq other net)
  where
    go : (other ≡ net) ⊎ (other ≡ net → ⊥) → Contains (nets ++ net ∷ []) other
    go (inl same) = subst (Contains (nets ++ net ∷ [])) (sym same) (Contains-push nets net)
    go (inr apart) = Contains-append_left nets (net ∷ []) other (all other (omega (arith, below, apart)))

pub loop-net-preserved : goal.loop-net-preserved
loop-net-preserved c =
    let P : ℕ → Type 0 = λ n. n < c.loop-net.net + 1 in
    record {
      within = subst (All P) (sym c.in_ok-push.ensures.items)
          (All-append P c.loop-net.nets.items (c.loop-net.net ∷ []) (λ k d h. let below = c.loop-net.invariant.within k d h in omega (arith, below))
          (All-cons P c.loop-net.net [] (omega arith) (All-nil P)));
      all = λ other below. subst (λ items. Contains items other) (sym c.in_ok-push.ensures.items)
          (one_more c.loop-net.nets.items c.loop-net.net c.loop-net.invariant.all other below);
    }
