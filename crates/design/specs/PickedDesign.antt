-- Some nets of a design as a design of their own.
use Rattle.std.specs.Prelude.{ℕ, List, [], map, slice_index_or}
use Rattle.logic3.specs.declared.change.Change.{Change}
use Rattle.logic3.specs.declared.value.Value.TheVariants.{Unknown}
use Rattle.netlist.specs.declared.part.Part.TheVariants.{Input}
use Rattle.netlist.specs.Pick.{place_in, picked}
use Rattle.timing_text.specs.declared.timing.Timing.{Timing}
use Rattle.design.specs.Circuit.{Net, Circuit}
use Rattle.design.specs.Design.{DesignView}

-- the net with a number; past the last net, the result doesn't matter
abbrev pub net_in : Circuit → ℕ → Net
net_in circuit number = slice_index_or circuit number (record {
  name = [];
  part = Input;
  pins = [];
  wires = [];
  timing = record { delay = 0; period = 0; phase = 0; initial = Unknown };
  stimuli = [];
})

-- its timing, with the wire delays of its pins
abbrev pub timing_in : Circuit → ℕ → Timing × List ℕ
timing_in circuit number = let net = net_in circuit number in (net.timing, net.wires)

abbrev pub stimuli_in : Circuit → ℕ → List Change
stimuli_in circuit number = (net_in circuit number).stimuli

-- the net with this number, unchanged except for its pins, which are their places among those that are kept
abbrev pub kept_net : Circuit → List ℕ → ℕ → Net
kept_net circuit keep number =
    let net = net_in circuit number in record net { pins = map (place_in keep) net.pins }

-- the nets with these numbers in this order, and these outputs, by the new numbers
abbrev pub picked_design : DesignView → List ℕ → List ℕ → DesignView
picked_design design keep outputs = record {
  netlist = picked design.netlist keep outputs;
  circuit = map (kept_net design.circuit keep) keep;
}
