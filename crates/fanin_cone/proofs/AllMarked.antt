-- The nets of a cone by their marks, and that these aren't all nets.
use Rattle.std.proofs.Common.{◌≡◌, ℕ, ◌<◌, Bool, true, false, List, length, map, sym, ◌∙◌, subst, arith}
use Rattle.std.specs.List.{list_all}
use Rattle.std.proofs.lemmas.List.{get_or_default}
use Rattle.std.proofs.lemmas.List.Sums.{list_all-from_AllPass}
use Rattle.netlist.specs.Netlist.{NetlistView, name_at}
use Rattle.fanin_cone.specs.Cone.{InCone, IsConeOf}
use Rattle.fanin_cone.specs.Walk.{MarksCone, NumbersMarked}
use Rattle.fanin_cone.proofs.Walking.{IsConeOf-marked}

module _ (netlist : NetlistView) (names : List (List ℕ)) (marks : List Bool) (size : length marks ≡ length netlist.nets) (cone : MarksCone netlist names marks) where
  pub not_all_in : list_all (λ mark. mark) marks ≡ false → ((net : ℕ) → net < length netlist.nets → InCone netlist names (name_at netlist net)) → true ≡ false
  not_all_in some all =
      sym (list_all-from_AllPass (λ mark. mark) marks
      (λ net d inside. get_or_default marks net d false inside ∙ (cone net).1 (omega (arith, size, inside), all net (omega (arith, size, inside)))))
      ∙ some

-- the cone of nets, also where its netlist and lists are written in another way
pub MarksCone-of : (netlist seen : NetlistView) (nets : List ℕ) (marks : List Bool) → seen ≡ netlist → MarksCone seen (map (name_at seen) nets) marks →
    MarksCone netlist (map (name_at netlist) nets) marks
MarksCone-of netlist seen nets marks same cone = subst (λ n. MarksCone n (map (name_at n) nets) marks) same cone

pub IsConeOf-kept : (netlist : NetlistView) (names : List (List ℕ)) (marks seen_marks : List Bool) (items keep : List ℕ) → MarksCone netlist names marks →
    seen_marks ≡ marks → NumbersMarked seen_marks items → keep ≡ items → IsConeOf netlist names keep
IsConeOf-kept netlist names marks seen_marks items keep cone same numbered same_keep =
    subst (IsConeOf netlist names) (sym same_keep)
    (IsConeOf-marked netlist names marks items cone (subst (λ m. NumbersMarked m items) same numbered))
