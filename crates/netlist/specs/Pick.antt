-- Some nets of a netlist as a netlist of their own.
use Rattle.std.specs.Prelude.{ℕ, ◌==◌, List, map}
use Rattle.std.specs.List.{position_or_len}
use Rattle.netlist.specs.declared.part.Part.{Part}
use Rattle.netlist.specs.Netlist.{NetView, NetlistView, net_at}

-- the place of a number among those that are kept
abbrev pub place_in : List ℕ → ℕ → ℕ
place_in keep number = position_or_len (λ kept. kept == number) keep

-- the net with this number, its pins by their places among those that are kept
abbrev pub picked_net : NetlistView → List ℕ → ℕ → NetView
picked_net netlist keep number =
    let net = net_at netlist number in
    record { name = net.name; part = net.part; pins = map (place_in keep) net.pins }

-- what drives that net, and its pins
abbrev pub picked_wiring : NetlistView → List ℕ → ℕ → Part × List ℕ
picked_wiring netlist keep number =
    let net = picked_net netlist keep number in (net.part, net.pins)

-- the nets of these numbers in this order, and these outputs, by the new numbers
abbrev pub picked : NetlistView → List ℕ → List ℕ → NetlistView
picked netlist keep outputs = record {
  nets = map (picked_net netlist keep) keep;
  outputs = map (place_in keep) outputs;
}
