-- The design that is made of its stored parts.
use Rattle.std.specs.Prelude.{◌≡◌, ℕ, ◌+◌, List, [], ◌∷◌, length, map}
use Rattle.std.specs.List.{zip}
use Rattle.flat_lists.specs.Parts.{parts, AreBounds}
use Rattle.logic3.specs.declared.change.Change.{Change}
use Rattle.netlist.specs.Netlist.{NetView, NetlistView, all_pins}
use Rattle.timing_text.specs.declared.timing.Timing.{Timing}
use Rattle.design.specs.Circuit.{Net, Circuit}
use Rattle.design.specs.Design.{DesignView, IsDesign}
use Rattle.design.specs.Pins.{all_fed}

abbrev pub timed_net : NetView × ((Timing × List ℕ) × List Change) → Net
timed_net timed = record {
  name = timed.0.name;
  part = timed.0.part;
  pins = timed.0.pins;
  wires = timed.1.0.1;
  timing = timed.1.0.0;
  stimuli = timed.1.1;
}

-- each net with its timing, wire delays and stimuli, in order
abbrev pub timed_nets : List NetView → List (Timing × List ℕ) → List (List Change) → Circuit
timed_nets nets timings stimuli = map timed_net (zip nets (zip timings stimuli))

abbrev pub design_view : NetlistView → List (Timing × List ℕ) → List (List Change) → DesignView
design_view netlist timings stimuli = record { netlist = netlist; circuit = timed_nets netlist.nets timings stimuli }

-- the first pin of each net, given the pins of all nets, and at the end the first number that isn't a pin
abbrev pub starts_from : ℕ → List (List ℕ) → List ℕ
starts_from pin [] = pin ∷ []
starts_from pin (pins ∷ nets) = pin ∷ starts_from (pin + length pins) nets

abbrev pub first_pins_of : NetlistView → List ℕ
first_pins_of netlist = starts_from 0 (map (λ (net : NetView). net.pins) netlist.nets)

-- parts that make a design, with a timing, stimuli, a first pin and the pins that it feeds for each net, and a source for each pin
pub record IsJoined (netlist : NetlistView) (first_pins sources : List ℕ) (fed : List (List ℕ)) (timings : List (Timing × List ℕ)) (stimuli : List (List Change)) : Type 0 where
  pub starts : first_pins ≡ first_pins_of netlist
  pub feeds : sources ≡ all_pins netlist.nets
  pub fan_out : fed ≡ all_fed (length netlist.nets) sources
  pub some_timing : length timings ≡ length netlist.nets
  pub some_stimuli : length stimuli ≡ length netlist.nets
  pub well_formed : IsDesign (design_view netlist timings stimuli)

-- such parts, where the pins that nets feed, the wire delays and the stimuli are one list each, cut at these places
pub record IsFlat (netlist : NetlistView) (first_pins sources first_fed fed : List ℕ) (timings : List Timing)
    (first_wires wires first_stimuli : List ℕ) (stimuli : List Change) : Type 0 where
  pub joined : IsJoined netlist first_pins sources (parts first_fed fed) (zip timings (parts first_wires wires)) (parts first_stimuli stimuli)
  pub fed_bounds : AreBounds first_fed fed
  pub wire_bounds : AreBounds first_wires wires
  pub stimulus_bounds : AreBounds first_stimuli stimuli
