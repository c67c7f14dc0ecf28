-- Closed sets of names, and the fan-in cone of names.
use Rattle.std.specs.Prelude.{ℕ, ◌<◌, ◌↔◌, Bool, IsTrue, List, length, map, All, Contains}
use Rattle.logic3.specs.Rising.{Rises}
use Rattle.netlist.specs.Netlist.{NetView, NetlistView, name_at}

-- the names of the nets at these pins
abbrev pub pin_names : NetlistView → List ℕ → List (List ℕ)
pin_names netlist pins = map (name_at netlist) pins

-- the set of names that a test gives
abbrev pub Passes : (List ℕ → Bool) → List ℕ → Type 0
Passes test name = IsTrue (test name)

-- the set contains the pin names of each of its nets, including flip-flops
abbrev pub IsClosed : NetlistView → (List ℕ → Type 0) → Type 0
IsClosed netlist K = All (λ (net : NetView). K net.name → All K (pin_names netlist net.pins)) netlist.nets

-- the fan-in cone, the least closed set that contains these names: they are in it, and so are the pin names of each net in it
pub data InCone (netlist : NetlistView) (names : List (List ℕ)) : List ℕ → Type 0 where
  start : (name : List ℕ) → Contains names name → InCone netlist names name
  pin : (net : NetView) (name : List ℕ) → Contains netlist.nets net → InCone netlist names net.name →
      Contains (pin_names netlist net.pins) name → InCone netlist names name

-- each net is in the cone of these names
abbrev pub ConeHasAll : NetlistView → List (List ℕ) → Type 0
ConeHasAll netlist names = (net : ℕ) → net < length netlist.nets → InCone netlist names (name_at netlist net)

-- the numbers of the nets in the cone of these names, rising
pub record IsConeOf (netlist : NetlistView) (names : List (List ℕ)) (numbers : List ℕ) : Type 0 where
  pub rising : Rises numbers
  pub nets : (number : ℕ) →
      Contains numbers number ↔ ((number < length netlist.nets) × InCone netlist names (name_at netlist number))

-- the numbers of the nets outside the cone of these names, rising
pub record IsOutsideOf (netlist : NetlistView) (names : List (List ℕ)) (numbers : List ℕ) : Type 0 where
  pub rising : Rises numbers
  pub nets : (number : ℕ) →
      Contains numbers number ↔ ((number < length netlist.nets) × (InCone netlist names (name_at netlist number) → ⊥))
