-- The net of a name in a design.
use Rattle.std.proofs.Common.{◌≡◌, ℕ, ◌<◌, nat_lt, Bool, true, false, cond, List, length, Option, None, Some, slice_get, refl, sym, ap, ◌∙◌, subst, arith, ltb-false, true≢false}
use Rattle.std.specs.List.{position, position_or_len}
use Rattle.std.specs.Option.{is_some}
use Rattle.std.specs.Str.{bytes_eq}
use Rattle.std.proofs.lemmas.List.Folds.{find_at}
use Rattle.std.proofs.lemmas.Option.{slice_get_past, slice_get_within, none-some, same_Some}
use Rattle.netlist.specs.Netlist.{NetView, NetlistView, IsNetlist, net_named, name_at}
use Rattle.netlist.proofs.CallerLemmas.{bytes_eq-same, All-from_no_position, no_net, net_at-named}
use Rattle.design.specs.Circuit.{Net}
use Rattle.design.specs.Design.{DesignView, IsDesign}
use Rattle.design.proofs.CallerLemmas.{net_named-circuit, length-circuit}
use Rattle.fanin_cone.specs.Agreement.{net_of}
use Rattle.fanin_cone.proofs.DesignNets.{net_there, net_at-untimed}
use Rattle.fanin_cone.proofs.NetNames.{same_net}

-- a net's name has the net's own number
pub own_number : (netlist : NetlistView) → IsNetlist netlist → (net : ℕ) → net < length netlist.nets → net_named netlist (name_at netlist net) ≡ Some net
own_number netlist ok net below = go (net_named netlist (name_at netlist net)) refl
  where
    name : List ℕ
    name = name_at netlist net

    go : (place : Option ℕ) → net_named netlist name ≡ place → place ≡ Some net
    go None none =
        absurd (true≢false (sym (bytes_eq-same name)
        ∙ All-from_no_position (λ (other : NetView). bytes_eq other.name name) netlist.nets none net no_net below))
    go (Some other) found =
        let there = net_at-named netlist name other found in
        ap Some (same_net netlist ok other net there.0 below there.1)

-- what is found is what stands at the first place
place_from : (place bound number : ℕ) → cond (nat_lt place bound) (Some place) None ≡ Some number → place ≡ number
place_from place bound number e = go (nat_lt place bound) e
  where
    go : (inside : Bool) → cond inside (Some place) None ≡ Some number → place ≡ number
    go true e = same_Some place number e
    go false e = absurd (none-some number e)

past_from : (place bound : ℕ) → cond (nat_lt place bound) (Some place) None ≡ None → nat_lt place bound ≡ false
past_from place bound e = go (nat_lt place bound) e
  where
    go : (inside : Bool) → cond inside (Some place) None ≡ None → inside ≡ false
    go true e = absurd (none-some place (sym e))
    go false e = refl

module _ (design : DesignView) (name : List ℕ) where
  abbrev pub has_name : Net → Bool
  has_name net = bytes_eq net.name name

  pub net_of-found : (number : ℕ) → position has_name design.circuit ≡ Some number → net_of design name ≡ slice_get design.circuit number
  net_of-found number found =
      find_at has_name design.circuit
      ∙ ap (slice_get design.circuit) (place_from (position_or_len has_name design.circuit) (length design.circuit) number found)

  pub net_of-none : position has_name design.circuit ≡ None → net_of design name ≡ None
  net_of-none none =
      let past = past_from (position_or_len has_name design.circuit) (length design.circuit) none in
      find_at has_name design.circuit ∙ slice_get_past design.circuit (position_or_len has_name design.circuit) (omega (arith, ltb-false))

-- the net at a number is that of its name
pub net_of-own : (design : DesignView) → IsDesign design → (number : ℕ) (net : Net) → slice_get design.circuit number ≡ Some net →
    net_of design net.name ≡ Some net
net_of-own design ok number net at =
    let below : number < length design.netlist.nets =
    omega (arith, slice_get_within design.circuit number net at, length-circuit design ok) in
    let name : name_at design.netlist number ≡ net.name = ap (λ (n : NetView). n.name) (net_at-untimed design ok number net at) in
    let found : net_named design.netlist net.name ≡ Some number =
    subst (λ name. net_named design.netlist name ≡ Some number) name (own_number design.netlist ok.netlist number below) in
    net_of-found design net.name number (sym (net_named-circuit design ok net.name) ∙ found) ∙ at

-- a name that has a number is a net's
pub net_of-some : (design : DesignView) → IsDesign design → (name : List ℕ) (number : ℕ) → net_named design.netlist name ≡ Some number →
    is_some (net_of design name) ≡ true
net_of-some design ok name number found =
    let there = net_there design.circuit number (omega (arith, (net_at-named design.netlist name number found).0, length-circuit design ok)) in
    ap is_some (net_of-found design name number (sym (net_named-circuit design ok name) ∙ found) ∙ there.1)
