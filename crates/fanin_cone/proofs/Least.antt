-- The cone of some names is the least closed set that holds them.
use Rattle.std.proofs.Common.{ℕ, get_or, List, [], ◌∷◌, refl, subst, arith, All, Contains}
use Rattle.std.proofs.lemmas.List.Elements.{All-contains, All-contains_itself, All-weaker, Contains-get_or}
use Rattle.netlist.specs.Netlist.{NetView, NetlistView}
use Rattle.fanin_cone.proofs.Listed.{Contains-one}
use Rattle.fanin_cone.specs.Cone.{pin_names, IsClosed, InCone, start, pin}

module _ (netlist : NetlistView) (names : List (List ℕ)) where
  pub cone_closed : IsClosed netlist (InCone netlist names)
  cone_closed place d inside is =
      let net = get_or netlist.nets place d in
      let pins = pin_names netlist net.pins in
      All-weaker (Contains pins) (InCone netlist names) (λ name at. pin net name (Contains-get_or netlist.nets place d inside) is at) pins (All-contains_itself pins)

  pub cone_holds : All (InCone netlist names) names
  cone_holds = All-weaker (Contains names) (InCone netlist names) (λ name at. start name at) names (All-contains_itself names)

  pub cone_least : (K : List ℕ → Type 0) → IsClosed netlist K → All K names → (name : List ℕ) → InCone netlist names name → K name
  cone_least K closed holds _ (start name at) = All-contains K names name holds at
  cone_least K closed holds _ (pin net name has before at) =
      All-contains K (pin_names netlist net.pins) name
      (All-contains (λ (net : NetView). K net.name → All K (pin_names netlist net.pins)) netlist.nets net closed has (cone_least K closed holds net.name before)) at

-- with more names the cone is no smaller
pub InCone-more : (netlist : NetlistView) (few many : List (List ℕ)) → ((name : List ℕ) → Contains few name → Contains many name) →
    (name : List ℕ) → InCone netlist few name → InCone netlist many name
InCone-more netlist few many more _ (start name at) = start name (more name at)
InCone-more netlist few many more _ (pin net name has before at) = pin net name has (InCone-more netlist few many more net.name before) at

-- the cone of some names is the cones of each, together
pub cone_of_one : (netlist : NetlistView) (names : List (List ℕ)) (name : List ℕ) → InCone netlist names name →
    (first : List ℕ) × Contains names first × InCone netlist (first ∷ []) name
cone_of_one netlist names _ (start name at) = (name, at, start name (0, omega arith, refl))
cone_of_one netlist names _ (pin net name has before at) =
    let rest = cone_of_one netlist names net.name before in
    (rest.0, rest.1, pin net name has rest.2 at)

pub in_one_of : (netlist : NetlistView) (names : List (List ℕ)) (name : List ℕ) →
    (first : List ℕ) × Contains names first × InCone netlist (first ∷ []) name → InCone netlist names name
in_one_of netlist names name (first, at, is) = InCone-more netlist (first ∷ []) names (λ other same. subst (Contains names) (Contains-one first other same) at) name is
