-- The nets on whose cones two designs agree are those that depend on no net that differs.
use Rattle.std.proofs.Common.{◌≡◌, ℕ, ◌+◌, ◌<◌, not, Bool, true, false, IsTrue, true≢false, List, [], ◌∷◌, ◌++◌, length, map, refl, sym, ap, ◌∙◌, subst, arith, Contains, inl, inr, ⊎_elim}
use Rattle.std.proofs.lemmas.Bool.{cases_eq}
use Rattle.std.proofs.lemmas.List.{get_or-map, length-map}
use Rattle.std.proofs.lemmas.List.Elements.{All-contains, All-push, Contains-append_left, Contains-push}
use Rattle.netlist.specs.Netlist.{name_at}
use Rattle.design.specs.Design.{DesignView, IsDesign}
use Rattle.design.proofs.CallerLemmas.{length-circuit}
use Rattle.fanin_cone.specs.Agreement.{AgreesAt}
use Rattle.fanin_cone.specs.AgreeingCones.{AgreesAtNet, AgreesOnConeOf, AreDiffering, MarksAgreeing}
use Rattle.fanin_cone.specs.Cone.{InCone}
use Rattle.fanin_cone.specs.Dependents.{DependsOn, MarksDependents}
use Rattle.fanin_cone.specs.Walk.{is_marked}
use Rattle.fanin_cone.proofs.Agreeing.{net_in_cone}

module _ (a b : DesignView) (horizon : ℕ) where
  -- the nets below one more number, which agrees
  pub AreDiffering-agrees : (count : ℕ) (numbers : List ℕ) → AreDiffering a b horizon count numbers → AgreesAtNet a b horizon count →
      AreDiffering a b horizon (count + 1) numbers
  AreDiffering-agrees count numbers so_far agrees = record {
    within = so_far.within;
    differ = so_far.differ;
    agree = λ net below. elim (cases_eq net count) [
      | inl same ↦ inr (subst (AgreesAtNet a b horizon) (sym same) agrees)
      | inr other ↦ so_far.agree net (omega (arith, below, other))
    ];
  }

  -- or differs
  pub AreDiffering-differs : (count : ℕ) (numbers : List ℕ) → AreDiffering a b horizon count numbers → count < length a.circuit →
      (AgreesAtNet a b horizon count → ⊥) → AreDiffering a b horizon (count + 1) (numbers ++ count ∷ [])
  AreDiffering-differs count numbers so_far inside differs = record {
    within = All-push (λ net. net < length a.circuit) numbers count so_far.within inside;
    differ = All-push (λ net. AgreesAtNet a b horizon net → ⊥) numbers count so_far.differ differs;
    agree = λ net below. elim (cases_eq net count) [
      | inl same ↦ inl (subst (Contains (numbers ++ count ∷ [])) (sym same) (Contains-push numbers count))
      | inr other ↦ ⊎_elim (λ at. inl (Contains-append_left numbers (count ∷ []) net at)) (λ agrees. inr agrees) (so_far.agree net (omega (arith, below, other)))
    ];
  }

  module _ (ok : IsDesign a) (numbers : List ℕ) (differing : AreDiffering a b horizon (length a.circuit) numbers) where
    -- the designs agree on the cone of a net that depends on no differing one
    agrees-from_none : (net : ℕ) → net < length a.circuit → (DependsOn a.netlist numbers net → ⊥) → AgreesOnConeOf a b horizon net
    agrees-from_none net below none name is =
        let known = net_in_cone a.netlist ok.netlist (name_at a.netlist net) net (omega (arith, below, length-circuit a ok)) refl name is in
        let inside : InCone a.netlist (name_at a.netlist net ∷ []) (name_at a.netlist known.0) =
        subst (InCone a.netlist (name_at a.netlist net ∷ [])) (sym known.2) is in
        subst (AgreesAt a b horizon) known.2
        (⊎_elim (λ at. absurd (none (record { origin = known.0; listed = at; inside = inside }))) (λ agrees. agrees)
        (differing.agree known.0 (omega (arith, known.1, length-circuit a ok))))

    -- and they don't where it depends on one
    none-from_agrees : (net : ℕ) → AgreesOnConeOf a b horizon net → DependsOn a.netlist numbers net → ⊥
    none-from_agrees net agrees depends =
        All-contains (λ n. AgreesAtNet a b horizon n → ⊥) numbers depends.origin differing.differ depends.listed
        (agrees (name_at a.netlist depends.origin) depends.inside)

    -- so the marks of the others are those of agreeing cones
    pub MarksAgreeing-flipped : (marks flipped : List Bool) → MarksDependents a numbers marks → flipped ≡ map not marks → MarksAgreeing a b horizon flipped
    MarksAgreeing-flipped marks flipped dependents is = rw is (record {
      size = length-map marks not ∙ dependents.size;
      each = λ net below. (
        λ marked. agrees-from_none net below (λ depends. true≢false (not_both net below marked ∙ ap not ((dependents.each net below).1 depends))),
        λ agrees. unmarked net below (λ was. none-from_agrees net agrees ((dependents.each net below).0 was)),
      );
    })
      where
        flipped-at : (net : ℕ) → net < length a.circuit → is_marked (map not marks) net ≡ not (is_marked marks net)
        flipped-at net below = get_or-map not marks net false false (omega (arith, below, dependents.size))

        not_both : (net : ℕ) → net < length a.circuit → IsTrue (is_marked (map not marks) net) → true ≡ not (is_marked marks net)
        not_both net below marked = sym marked ∙ flipped-at net below

        unmarked : (net : ℕ) → net < length a.circuit → (IsTrue (is_marked marks net) → ⊥) → IsTrue (is_marked (map not marks) net)
        unmarked net below none = flipped-at net below ∙ go (is_marked marks net) refl
          where
            go : (mark : Bool) → is_marked marks net ≡ mark → not mark ≡ true
            go true e = absurd (none e)
            go false e = refl
