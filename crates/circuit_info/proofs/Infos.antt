-- The description of a design.
use Rattle.std.proofs.Common.{◌≡◌, ℕ, ◌<◌, List, ◌++◌, length, map, slice_index_or, All, ap, sym, subst, ◌∙◌}
use Rattle.std.proofs.lemmas.List.Elements.{Contains-get_or}
use Rattle.netlist.specs.Netlist.{NetlistView, name_at}
use Rattle.design.specs.Design.{DesignView}
use Rattle.fanin_cone.specs.Cone.{IsOutsideOf}
use Rattle.circuit_info.specs.Text.{IsInfoText}
use Rattle.circuit_info.proofs.OneText.{one_info_text}
use Rattle.circuit_info.specs.InfoText.{IsInfoOf}
use Rattle.circuit_info.specs.PathText.{IsPathText}
use Rattle.circuit_info.proofs.Members.{same_from_members}
use Rattle.circuit_info.proofs.PathTexts.{one_path_text}

-- what lies outside cones is one list of numbers
one_outside : (netlist : NetlistView) (names : List (List ℕ)) (a b : List ℕ) → IsOutsideOf netlist names a → IsOutsideOf netlist names b → a ≡ b
one_outside netlist names a b is other_is =
    same_from_members a b is.rising other_is.rising
    (λ n at. (other_is.nets n).1 ((is.nets n).0 at))
    (λ n at. (is.nets n).1 ((other_is.nets n).0 at))

-- a description, by other names of what it is made of
pub IsInfoOf-made : (design : DesignView) (netlist : NetlistView) → netlist ≡ design.netlist → (unobserved given counts paths text : List ℕ) →
    IsOutsideOf netlist (map (name_at netlist) netlist.outputs) unobserved → given ≡ unobserved → IsInfoText netlist given counts →
    IsPathText design paths → text ≡ counts ++ paths → IsInfoOf design text
IsInfoOf-made design netlist same unobserved given counts paths text out given_so counted longest both = record {
  unobserved = unobserved;
  counts = counts;
  paths = paths;
  outside = subst (λ (netlist : NetlistView). IsOutsideOf netlist (map (name_at netlist) netlist.outputs) unobserved) same out;
  counted = subst (λ (netlist : NetlistView). IsInfoText netlist unobserved counts) same (subst (λ (nets : List ℕ). IsInfoText netlist nets counts) given_so counted);
  longest = longest;
  both = both;
}

-- so a design has one description
pub one_info : (design : DesignView) (a b : List ℕ) → IsInfoOf design a → IsInfoOf design b → a ≡ b
one_info design a b is other_is =
    let netlist = design.netlist in
    let same = one_outside netlist (map (name_at netlist) netlist.outputs) other_is.unobserved is.unobserved other_is.outside is.outside in
    let counts = one_info_text netlist is.unobserved is.counts other_is.counts is.counted
    (subst (λ (nets : List ℕ). IsInfoText netlist nets other_is.counts) same other_is.counted) in
    let paths = one_path_text design is.paths other_is.paths is.longest other_is.longest in
    is.both ∙ ap (λ counts. counts ++ is.paths) counts ∙ ap (λ paths. other_is.counts ++ paths) paths ∙ sym other_is.both

-- the nets outside cones are nets
pub All-outside : (netlist : NetlistView) (names : List (List ℕ)) (nets : List ℕ) → IsOutsideOf netlist names nets →
    All (λ net. net < length netlist.nets) nets
All-outside netlist names nets is k d within = ((is.nets (slice_index_or nets k d)).0 (Contains-get_or nets k d within)).0
