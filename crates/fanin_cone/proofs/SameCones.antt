-- Two designs that agree on the cone that some names have in the first: it is their cone in the second.
use Rattle.std.proofs.Common.{◌≡◌, ℕ, List, Option, None, Some, Contains, slice_get, refl, sym, ap, ◌∙◌, subst, arith}
use Rattle.std.specs.List.{position}
use Rattle.std.proofs.lemmas.List.{get_or_default}
use Rattle.std.proofs.lemmas.List.Elements.{Contains-get_or}
use Rattle.std.proofs.lemmas.Option.{none-some, same_Some}
use Rattle.netlist.specs.Netlist.{NetView, net_named, net_at}
use Rattle.design.specs.Circuit.{Net}
use Rattle.design.specs.Design.{DesignView, IsDesign, untimed}
use Rattle.design.proofs.CallerLemmas.{net_named-circuit, length-circuit}
use Rattle.netlist.proofs.CallerLemmas.{net_at-named, no_net}
use Rattle.fanin_cone.specs.Cone.{pin_names, InCone, start, pin}
use Rattle.fanin_cone.specs.Agreement.{net_of, AgreesOn}
use Rattle.fanin_cone.proofs.DesignNets.{net_there, net_at-untimed}
use Rattle.fanin_cone.proofs.NetOf.{has_name, net_of-found, net_of-none, net_of-own}

-- the net of a name has a number
numbered : (design : DesignView) → IsDesign design → (name : List ℕ) (x : Net) → net_of design name ≡ Some x →
    (number : ℕ) × (net_named design.netlist name ≡ Some number) × (slice_get design.circuit number ≡ Some x)
numbered design ok name x found = go (position (has_name design name) design.circuit) refl
  where
    go : (place : Option ℕ) → position (has_name design name) design.circuit ≡ place →
        (number : ℕ) × (net_named design.netlist name ≡ Some number) × (slice_get design.circuit number ≡ Some x)
    go None e = absurd (none-some x (sym (net_of-none design name e) ∙ found))
    go (Some number) e = (number, net_named-circuit design ok name ∙ e, sym (net_of-found design name number e) ∙ found)

-- it stands in the netlist, by its name and with its pins
in_netlist : (design : DesignView) → IsDesign design → (name : List ℕ) (x : Net) → net_of design name ≡ Some x →
    (net : NetView) × Contains design.netlist.nets net × (net.name ≡ name) × (net.pins ≡ x.pins)
in_netlist design ok name x found =
    let there = numbered design ok name x found in
    let named = net_at-named design.netlist name there.0 there.1 in (
      net_at design.netlist there.0,
      Contains-get_or design.netlist.nets there.0 no_net named.0,
      named.1,
      ap (λ (net : NetView). net.pins) (net_at-untimed design ok there.0 x there.2),
    )

-- and a net of the netlist is that of its name
of_netlist : (design : DesignView) → IsDesign design → (net : NetView) → Contains design.netlist.nets net →
    (x : Net) → net_of design net.name ≡ Some x → x.pins ≡ net.pins
of_netlist design ok net (number, below, is) x found =
    let own = net_there design.circuit number (omega (arith, below, length-circuit design ok)) in
    let view : untimed own.0 ≡ net = sym (net_at-untimed design ok number own.0 own.1)
    ∙ get_or_default design.netlist.nets number no_net net below ∙ is in
    let there : net_of design net.name ≡ Some own.0 =
    subst (λ name. net_of design name ≡ Some own.0) (ap (λ (n : NetView). n.name) view) (net_of-own design ok number own.0 own.1) in
    ap (λ (n : Net). n.pins) (same_Some x own.0 (sym found ∙ there)) ∙ ap (λ (n : NetView). n.pins) view

module _ (a b : DesignView) (first : IsDesign a) (second : IsDesign b) (names : List (List ℕ)) (horizon : ℕ)
    (agree : AgreesOn a b (InCone a.netlist names) horizon) where
  pub cone_there : (name : List ℕ) → InCone a.netlist names name → InCone b.netlist names name
  cone_there _ (start name at) = start name at
  cone_there _ (pin net name has before at) =
      let same = agree net.name before in
      let other = in_netlist b second net.name same.y same.second in
      let pins : pin_names a.netlist net.pins ≡ pin_names b.netlist (other.0).pins =
      ap (pin_names a.netlist) (sym (of_netlist a first net has same.x same.first)) ∙ same.same.pins ∙ ap (pin_names b.netlist) (sym other.3) in
      pin other.0 name other.1 (subst (InCone b.netlist names) (sym other.2) (cone_there net.name before)) (subst (λ ns. Contains ns name) pins at)

  pub cone_back : (name : List ℕ) → InCone b.netlist names name → InCone a.netlist names name
  cone_back _ (start name at) = start name at
  cone_back _ (pin net name has before at) =
      let here = cone_back net.name before in
      let same = agree net.name here in
      let other = in_netlist a first net.name same.x same.first in
      let pins : pin_names b.netlist net.pins ≡ pin_names a.netlist (other.0).pins =
      ap (pin_names b.netlist) (sym (of_netlist b second net has same.y same.second)) ∙ sym same.same.pins ∙ ap (pin_names a.netlist) (sym other.3) in
      pin other.0 name other.1 (subst (InCone a.netlist names) (sym other.2) here) (subst (λ ns. Contains ns name) pins at)
