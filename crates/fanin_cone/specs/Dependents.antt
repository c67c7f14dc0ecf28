-- The nets that depend on others: those whose fan-in cones contain one of them.
use Rattle.std.specs.Prelude.{◌≡◌, ℕ, ◌<◌, ◌↔◌, Bool, IsTrue, List, [], ◌∷◌, length, map, Contains}
use Rattle.netlist.specs.Netlist.{NetlistView, name_at}
use Rattle.design.specs.Circuit.{Circuit}
use Rattle.design.specs.Design.{DesignView}
use Rattle.design.specs.Pins.{net_of_pin, pins_fed, sources_of}
use Rattle.fanin_cone.specs.Cone.{InCone}
use Rattle.fanin_cone.specs.Walk.{is_marked}

-- the nets that pins belong to
abbrev pub nets_of_pins : Circuit → List ℕ → List ℕ
nets_of_pins circuit pins = map (net_of_pin circuit) pins

-- the nets that a net feeds, one for each pin
abbrev pub fed_nets : Circuit → ℕ → List ℕ
fed_nets circuit net = nets_of_pins circuit (pins_fed net (sources_of circuit))

-- the fan-in cone of a net contains one of these nets
pub record DependsOn (netlist : NetlistView) (starts : List ℕ) (net : ℕ) : Type 0 where
  pub origin : ℕ
  pub listed : Contains starts origin
  pub inside : InCone netlist (name_at netlist net ∷ []) (name_at netlist origin)

-- exactly the nets that depend on one of these are marked
pub record MarksDependents (design : DesignView) (starts : List ℕ) (marks : List Bool) : Type 0 where
  pub size : length marks ≡ length design.circuit
  pub each : (net : ℕ) → net < length design.circuit → IsTrue (is_marked marks net) ↔ DependsOn design.netlist starts net
