-- Netlists: nets with their names, what drives them and their pins by number.
use Rattle.std.specs.Prelude.{◌≢◌, ℕ, ◌<◌, ◌≤◌, IsTrue, List, [], length, position, sum_by, Option, All, AllPairs, bytes_eq, flat_map, slice_index_or}
use Rattle.netlist.specs.declared.part.Part.{Part}
use Rattle.netlist.specs.declared.part.Part.TheVariants.{Input}
use Rattle.netlist.specs.Name.{IsName}
use Rattle.netlist.specs.Part.{takes_pins}

-- a net: its name, what drives it, and the numbers of the nets at its pins
pub record NetView : Type 0 where
  pub name : List ℕ
  pub part : Part
  pub pins : List ℕ

-- the nets in order of definition, and the numbers of the outputs
pub record NetlistView : Type 0 where
  pub nets : List NetView
  pub outputs : List ℕ

-- the largest number of nets in a netlist, and the largest number of pins that they have together
abbrev pub most_nets : ℕ
most_nets = 100_000

abbrev pub most_pins : ℕ
most_pins = 1_000_000

-- the pins of nets, net after net
abbrev pub all_pins : List NetView → List ℕ
all_pins nets = flat_map (λ (net : NetView). net.pins) nets

abbrev pub pin_count : NetlistView → ℕ
pin_count netlist = sum_by (λ (net : NetView). length net.pins) netlist.nets

-- the conditions on every netlist
pub record IsNetlist (netlist : NetlistView) : Type 0 where
  pub names : All (λ (net : NetView). IsName net.name) netlist.nets
  pub distinct : AllPairs (λ (earlier later : NetView). earlier.name ≢ later.name) netlist.nets
  pub arities : All (λ (net : NetView). IsTrue (takes_pins net.part (length net.pins))) netlist.nets
  pub pins : All (λ (net : NetView). All (λ pin. pin < length netlist.nets) net.pins) netlist.nets
  pub outputs : All (λ output. output < length netlist.nets) netlist.outputs
  pub outputs_once : AllPairs (λ (earlier later : ℕ). earlier ≢ later) netlist.outputs
  pub some_net : 0 < length netlist.nets
  pub net_limit : length netlist.nets ≤ most_nets
  pub pin_limit : pin_count netlist ≤ most_pins

-- the number of the net with this name
abbrev pub net_named : NetlistView → List ℕ → Option ℕ
net_named netlist name = position (λ (net : NetView). bytes_eq net.name name) netlist.nets

-- the net with a number; past the last net, the result doesn't matter
abbrev pub net_at : NetlistView → ℕ → NetView
net_at netlist number = slice_index_or netlist.nets number (record { name = []; part = Input; pins = [] })

-- the name of the net with a number
abbrev pub name_at : NetlistView → ℕ → List ℕ
name_at netlist number = (net_at netlist number).name
