-- How the walk from gates back over their pins begins and ends.
use Rattle.std.proofs.Common.{◌≡◌, ℕ, ◌&&◌, ◌<◌, not, Bool, true, false, cond, IsTrue, List, [], length, map, refl, sym, ap, ◌∙◌, arith, ⊎_elim}
use Rattle.std.specs.List.{range_with_len}
use Rattle.std.proofs.lemmas.Bool.{cases_lt}
use Rattle.std.proofs.lemmas.List.FromFn.{length-map-range_with_len, get_or-map-range_with_len}
use Rattle.std.proofs.lemmas.Option.{slice_get_within}
use Rattle.netlist.specs.Netlist.{NetView}
use Rattle.netlist.specs.Repeats.{times}
use Rattle.netlist.specs.Marks.{is_seen}
use Rattle.netlist.specs.Flow.{is_gate_in}
use Rattle.netlist.specs.Walk.{IsWalk}
use Rattle.netlist.proofs.Gates.{no_gate_past}
use Rattle.netlist.proofs.Times.{the_count}

unseen_gate : (test : Bool) → not test ≡ false → test ≡ true
unseen_gate true e = refl
unseen_gate false e = sym e

no_seen_gate : (test : Bool) → (test && not test) ≡ false
no_seen_gate true = refl
no_seen_gate false = refl

and_true : (test : Bool) → (test && true) ≡ test
and_true true = refl
and_true false = refl

module _ (nets : List NetView) where
  abbrev is_other : ℕ → Bool
  is_other net = not (is_gate_in nets net)

  -- at first other nets were seen, and no gate
  pub IsWalk-start : (seen : List Bool) → seen ≡ map is_other (range_with_len 0 (length nets)) → IsWalk nets seen [] []
  IsWalk-start seen is = record {
    size = ap length is ∙ length-map-range_with_len is_other 0 (length nets);
    gates = λ net below new. unseen_gate (is_gate_in nets net) (sym (mark net below) ∙ new);
    each = λ net. sym (ap the_count (none net));
    looked = λ k d within. absurd (omega (arith, within));
    hangs = λ i j d before within. absurd (omega (arith, within));
    follows = λ place gate source at. absurd (omega (arith, slice_get_within [] place gate at));
  }
    where
      mark : (net : ℕ) → net < length nets → is_seen seen net ≡ is_other net
      mark net below = ap (λ seen. is_seen seen net) is ∙ get_or-map-range_with_len is_other 0 (length nets) net net false below (omega arith)

      none : (net : ℕ) → (is_gate_in nets net && is_seen seen net) ≡ false
      none net = ⊎_elim
          (λ below. ap (λ seen. is_gate_in nets net && seen) (mark net below) ∙ no_seen_gate (is_gate_in nets net))
          (λ past. ap (λ test. test && is_seen seen net) (no_gate_past nets net past))
          (cases_lt net (length nets))

  -- in the end each gate was left
  pub left_each : (seen : List Bool) (left : List ℕ) → ((net : ℕ) → net < length nets → IsTrue (is_seen seen net)) →
      IsWalk nets seen [] left → (net : ℕ) → times net left ≡ cond (is_gate_in nets net) 1 0
  left_each seen left all walk net = omega (arith, walk.each net, ap the_count whole)
    where
      whole : (is_gate_in nets net && is_seen seen net) ≡ is_gate_in nets net
      whole = ⊎_elim
          (λ below. ap (λ seen. is_gate_in nets net && seen) (all net below) ∙ and_true (is_gate_in nets net))
          (λ past. let none = no_gate_past nets net past in ap (λ test. test && is_seen seen net) none ∙ sym none)
          (cases_lt net (length nets))
