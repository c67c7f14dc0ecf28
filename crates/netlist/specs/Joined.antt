-- The netlist that is made of its stored parts.
use Rattle.std.specs.Prelude.{◌≡◌, ℕ, List, length, map}
use Rattle.std.specs.List.{zip}
use Rattle.flat_lists.specs.Parts.{parts, AreBounds}
use Rattle.netlist.specs.declared.netlist.Net.{Net}
use Rattle.netlist.specs.declared.part.Part.{Part}
use Rattle.netlist.specs.Netlist.{NetView, NetlistView, IsNetlist}

abbrev pub named_net : List ℕ × (Part × List ℕ) → NetView
named_net named = record { name = named.0; part = named.1.0; pins = named.1.1 }

-- each net with its name, in order
abbrev pub named_nets : List (List ℕ) → List (Part × List ℕ) → List NetView
named_nets names nets = map named_net (zip names nets)

abbrev pub netlist_view : List (List ℕ) → List (Part × List ℕ) → List ℕ → NetlistView
netlist_view names nets outputs = record { nets = named_nets names nets; outputs = outputs }

-- parts that make a netlist, with a name for each net
pub record IsJoined (names : List (List ℕ)) (nets : List (Part × List ℕ)) (outputs : List ℕ) : Type 0 where
  pub same_length : length names ≡ length nets
  pub well_formed : IsNetlist (netlist_view names nets outputs)

-- such parts, where the pins of all nets are one list, cut at these places
pub record IsFlat (names : List (List ℕ)) (drivers : List Part) (first_pins pins outputs : List ℕ) : Type 0 where
  pub joined : IsJoined names (zip drivers (parts first_pins pins)) outputs
  pub bounds : AreBounds first_pins pins

-- what drives a net, and the numbers at its pins
abbrev pub seen_net : Net → Part × List ℕ
seen_net net = (net.part, net.pins.items)
