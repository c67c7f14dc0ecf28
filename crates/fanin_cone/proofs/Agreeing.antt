-- Agreement, net by net.
use Rattle.std.proofs.Common.{◌≡◌, ℕ, ◌<◌, Bool, List, [], ◌∷◌, length, All, Contains, option_map, None, Some, slice_get, sym, ap, ◌∙◌, subst, ◌↔◌, IsTrue}
use Rattle.std.specs.List.{position}
use Rattle.std.specs.Str.{bytes_eq}
use Rattle.std.proofs.lemmas.Option.{none-some, same_Some}
use Rattle.std.proofs.lemmas.List.Elements.{All-contains}
use Rattle.netlist.specs.Netlist.{NetView, NetlistView, IsNetlist, net_named, name_at}
use Rattle.design.specs.Circuit.{Net}
use Rattle.design.specs.Design.{DesignView, IsDesign}
use Rattle.design.proofs.CallerLemmas.{net_with}
use Rattle.netlist.proofs.CallerLemmas.{net_at-named}
use Rattle.fanin_cone.specs.Cone.{InCone, start, pin, IsConeOf}
use Rattle.fanin_cone.specs.Agreement.{net_of, IsSameNet, AgreesAt, AgreesOn}
use Rattle.fanin_cone.proofs.DesignNets.{net_there, name_at-circuit}
use Rattle.fanin_cone.proofs.Listed.{Contains-from_map, Contains-one}
use Rattle.fanin_cone.proofs.NetNames.{number_of_net, pins_below}
use Rattle.fanin_cone.proofs.NetOf.{net_of-found, net_of-none, net_of-own}

module _ (a b : DesignView) (ok : IsDesign a) (horizon net : ℕ) (name : List ℕ)
    (named : option_map (λ (n : Net). n.name) (slice_get a.circuit net) ≡ Some name) where
  own : (x : Net) × (slice_get a.circuit net ≡ Some x) × (net_of a (name_at a.netlist net) ≡ Some x)
  own =
      let found = net_with (λ (n : Net). n.name) (slice_get a.circuit net) name named in
      let same : name_at a.netlist net ≡ found.0.name = name_at-circuit a ok net name named ∙ sym found.2 in
      (found.0, found.1, ap (net_of a) same ∙ net_of-own a ok net found.0 found.1)

  theirs : net_of b (name_at a.netlist net) ≡ net_of b name
  theirs = ap (net_of b) (name_at-circuit a ok net name named)

  -- where the other design has a net of this name
  pub AgreesAt-found : (other : ℕ) → other < length b.circuit → Some other ≡ position (λ (n : Net). bytes_eq n.name name) b.circuit → (result : Bool) →
      ((x y : Net) → slice_get a.circuit net ≡ Some x → slice_get b.circuit other ≡ Some y → IsTrue result ↔ IsSameNet a b horizon x y) →
      IsTrue result ↔ AgreesAt a b horizon (name_at a.netlist net)
  AgreesAt-found other below found result decides =
      let there = net_there b.circuit other below in
      let second : net_of b (name_at a.netlist net) ≡ Some there.0 = theirs ∙ net_of-found b name other (sym found) ∙ there.1 in
      let same = decides own.0 there.0 own.1 there.1 in (
        λ is. record { x = own.0; y = there.0; first = own.2; second = second; same = same.0 is },
        λ agrees.
            let x : agrees.x ≡ own.0 = same_Some agrees.x own.0 (sym agrees.first ∙ own.2) in
            let y : agrees.y ≡ there.0 = same_Some agrees.y there.0 (sym agrees.second ∙ second) in
            same.1 (subst (λ n. IsSameNet a b horizon n there.0) x (subst (λ n. IsSameNet a b horizon agrees.x n) y agrees.same)),
      )

  -- and where it has none
  pub AgreesAt-none : None ≡ position (λ (n : Net). bytes_eq n.name name) b.circuit → AgreesAt a b horizon (name_at a.netlist net) → ⊥
  AgreesAt-none none agrees = none-some agrees.y (sym (net_of-none b name (sym none)) ∙ sym theirs ∙ agrees.second)

-- each name in a cone of nets is a net's
pub net_in_cone : (netlist : NetlistView) → IsNetlist netlist → (start_name : List ℕ) (first : ℕ) → first < length netlist.nets → name_at netlist first ≡ start_name →
    (name : List ℕ) → InCone netlist (start_name ∷ []) name → (number : ℕ) × (number < length netlist.nets) × (name_at netlist number ≡ name)
net_in_cone netlist ok start_name first below named _ (start name at) = (first, below, named ∙ Contains-one start_name name at)
net_in_cone netlist ok start_name first below named _ (pin net name has before at) =
    let source = number_of_net netlist net has in
    let found = Contains-from_map (name_at netlist) net.pins name at in
    let pins = subst (λ (n : NetView). All (λ p. p < length netlist.nets) n.pins) source.2 (pins_below netlist ok source.0 source.1) in
    (found.0, All-contains (λ p. p < length netlist.nets) net.pins found.0 pins found.1, found.2)

module _ (a b : DesignView) (ok : IsDesign a) (horizon : ℕ) (name : List ℕ) (net : ℕ) (numbers : List ℕ)
    (found : net_named a.netlist name ≡ Some net) (cone : IsConeOf a.netlist (name_at a.netlist net ∷ []) numbers) where
  same_names : name_at a.netlist net ∷ [] ≡ name ∷ []
  same_names = ap (λ n. n ∷ []) (net_at-named a.netlist name net found).1

  -- where each net of the cone agrees, the designs agree on the cone
  pub AgreesOn-all : All (λ n. AgreesAt a b horizon (name_at a.netlist n)) numbers → AgreesOn a b (InCone a.netlist (name ∷ [])) horizon
  AgreesOn-all all other is =
      let there = net_at-named a.netlist name net found in
      let known = net_in_cone a.netlist ok.netlist name net there.0 there.1 other is in
      let is_there = subst (λ names. InCone a.netlist names (name_at a.netlist known.0)) (sym same_names) (subst (InCone a.netlist (name ∷ [])) (sym known.2) is) in
      subst (AgreesAt a b horizon) known.2
      (All-contains (λ n. AgreesAt a b horizon (name_at a.netlist n)) numbers known.0 all ((cone.nets known.0).1 (known.1, is_there)))

  -- and where they agree on the cone, each net of it agrees
  pub AgreesAt-of : AgreesOn a b (InCone a.netlist (name ∷ [])) horizon → (n : ℕ) → Contains numbers n → AgreesAt a b horizon (name_at a.netlist n)
  AgreesAt-of agrees n at = agrees (name_at a.netlist n) (subst (λ names. InCone a.netlist names (name_at a.netlist n)) same_names ((cone.nets n).0 at).1)
