-- A design: a netlist with its timing, wire delays and stimuli.
use Rattle.std.specs.Prelude.{◌≡◌, All, map}
use Rattle.netlist.specs.Netlist.{NetView, NetlistView, IsNetlist}
use Rattle.design.specs.Circuit.{Net, Circuit, IsTimed}

pub record DesignView : Type 0 where
  pub netlist : NetlistView
  pub circuit : Circuit

-- a net without its timing, wire delays and stimuli
abbrev pub untimed : Net → NetView
untimed net = record { name = net.name; part = net.part; pins = net.pins }

-- the circuit is the netlist with timing, wire delays and stimuli in their ranges
pub record IsDesign (design : DesignView) : Type 0 where
  pub netlist : IsNetlist design.netlist
  pub same_nets : map untimed design.circuit ≡ design.netlist.nets
  pub timed : All IsTimed design.circuit
