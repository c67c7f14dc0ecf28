-- Marks that are flipped.
use Rattle.std.proofs.Common.{◌≡◌, ℕ, ◌<◌, not, Bool, true, false, IsTrue, true≢false, List, length, map, refl, sym, ap, ◌∙◌, arith, ⊎_elim}
use Rattle.std.proofs.lemmas.Bool.{cases_lt}
use Rattle.std.proofs.lemmas.List.{get_or-map, length-map, get_or_past}
use Rattle.netlist.specs.Netlist.{NetlistView, name_at}
use Rattle.fanin_cone.specs.Cone.{InCone, IsOutsideOf}
use Rattle.fanin_cone.specs.Walk.{is_marked, MarksCone, NumbersMarked}

unflip : (mark : Bool) → not mark ≡ true → mark ≡ false
unflip true e = sym e
unflip false e = refl

-- what is marked after a flip was a net that wasn't
flipped_was : (marks : List Bool) (net : ℕ) → IsTrue (is_marked (map not marks) net) → (net < length marks) × (is_marked marks net ≡ false)
flipped_was marks net is = ⊎_elim
    (λ below. (below, unflip (is_marked marks net) (sym (get_or-map not marks net false false below) ∙ is)))
    (λ past. absurd (true≢false (sym is ∙ get_or_past (map not marks) net false (omega (arith, past, length-map marks not)))))
    (cases_lt net (length marks))

flipped_is : (marks : List Bool) (net : ℕ) → net < length marks → is_marked marks net ≡ false → IsTrue (is_marked (map not marks) net)
flipped_is marks net below was = get_or-map not marks net false false below ∙ ap not was

pub IsOutsideOf-flipped : (netlist : NetlistView) (names : List (List ℕ)) (marks : List Bool) (numbers : List ℕ) → length marks ≡ length netlist.nets →
    MarksCone netlist names marks → NumbersMarked (map not marks) numbers → IsOutsideOf netlist names numbers
IsOutsideOf-flipped netlist names marks numbers size cone marked = record {
  rising = marked.rising;
  nets = λ net. (
    λ at.
        let was = flipped_was marks net ((marked.marked net).0 at) in
        let below : net < length netlist.nets = omega (arith, size, was.0) in
        (below, λ inside. true≢false (sym ((cone net).1 (below, inside)) ∙ was.1)),
    λ out. (marked.marked net).1 (flipped_is marks net (omega (arith, size, out.0)) (unmarked net out.1)),
  );
}
  where
    unmarked : (net : ℕ) → (InCone netlist names (name_at netlist net) → ⊥) → is_marked marks net ≡ false
    unmarked net out = go (is_marked marks net) refl
      where
        go : (mark : Bool) → is_marked marks net ≡ mark → mark ≡ false
        go true e = absurd (out ((cone net).0 e).1)
        go false e = refl
