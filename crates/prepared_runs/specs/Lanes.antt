-- The lanes of a diagram: nets, and after them buses.
use Rattle.std.specs.Prelude.{ℕ, not, Bool, true, false, if◌then◌else◌, List, filter, flat_map, map, option_map, Option, Result, Ok}
use Rattle.std.specs.Option.{ok_or}
use Rattle.texts.specs.Text.{◌>>=◌}
use Rattle.netlist.specs.Names.{seen_names}
use Rattle.netlist.specs.Netlist.{NetlistView}
use Rattle.net_words.specs.Meant.{all_found, nets_meant}
use Rattle.prepared_runs.specs.declared.fault.SimFault.{SimFault}
use Rattle.prepared_runs.specs.declared.fault.SimFault.TheVariants.{UnknownNet}
use Rattle.prepared_runs.specs.declared.lanes.BusNets.{BusNets}
use Rattle.prepared_runs.specs.declared.lanes.Lanes.{Lanes}
use Rattle.prepared_runs.specs.declared.view.DiagramView.{DiagramView}
use Rattle.prepared_runs.specs.declared.view.Selection.{Selection}
use Rattle.prepared_runs.specs.declared.view.Selection.TheVariants.{All, Outputs, Named}
use Rattle.prepared_runs.specs.Marked.{is_among}
use Rattle.prepared_runs.specs.Source.{if_known, shown_nets}

-- a bus: its word, and its nets, the most significant first
abbrev pub BusView : Type 0
BusView = List ℕ × List ℕ

abbrev pub bus_view : BusNets → BusView
bus_view bus = (bus.name.now, bus.nets.items)

-- the bus that a word means
abbrev pub bus_meant : NetlistView → List ℕ → Option BusView
bus_meant netlist word = option_map (λ nets. (word, nets)) (nets_meant netlist word)

-- the buses of words, if each means nets
abbrev pub buses_meant : NetlistView → List (List ℕ) → Option (List BusView)
buses_meant netlist words = all_found (bus_meant netlist) words

-- the nets of all buses
abbrev pub bits_of : List BusView → List ℕ
bits_of buses = flat_map (λ (bus : BusView). bus.1) buses

abbrev pub is_named : Selection → Bool
is_named All = false
is_named Outputs = false
is_named (Named names) = true

-- the nets that have lanes of their own: those that are shown, and of them a bus's only if they are named
abbrev pub lone_nets : Selection → NetlistView → List BusView → List ℕ
lone_nets show netlist buses =
    if is_named show then shown_nets show netlist
    else filter (λ net. not (is_among (bits_of buses) net)) (shown_nets show netlist)

pub record LanesView : Type 0 where
  pub nets : List ℕ
  pub buses : List BusView

abbrev pub seen_lanes : Lanes → LanesView
seen_lanes lanes = record { nets = lanes.nets.items; buses = map bus_view lanes.buses.items }

-- the lanes of a view, or the fault: first of the nets to be shown, and then of the buses
unfoldable pub lanes_of : DiagramView → NetlistView → Result LanesView SimFault
lanes_of view netlist = do
  shown ← if_known view.show netlist (shown_nets view.show netlist)
  buses ← ok_or (buses_meant netlist (seen_names view.buses.items)) UnknownNet
  Ok (record { nets = lone_nets view.show netlist buses; buses = buses })
