-- The circuit of a netlist, its timing text and its stimulus text.
use Rattle.std.specs.Prelude.{ℕ, List, map, Result, Ok, Err}
use Rattle.std.specs.Option.{option_map_or}
use Rattle.std.specs.Result.{result_map_both}
use Rattle.texts.specs.Text.{◌>>=◌}
use Rattle.netlist.specs.Netlist.{NetView, NetlistView}
use Rattle.design.specs.declared.fault.BuildFault.{BuildFault}
use Rattle.design.specs.declared.fault.BuildFault.TheVariants.{Setting, Timing, Stimulus}
use Rattle.design.specs.Circuit.{Circuit}
use Rattle.design.specs.Design.{DesignView}
use Rattle.timing_text.specs.Options.{option_fault}
use Rattle.timing_text.specs.TimingLines.{NetProperty}
use Rattle.timing_text.specs.Timings.{properties_of, timing_of_net, wires_of_net}
use Rattle.timing_text.specs.Stimuli.{NamedChange, stimuli_of, stimuli_named}

-- each net with its timing, wire delays and stimuli
abbrev pub circuit_with : NetlistView → List NetProperty → List NamedChange → ℕ → ℕ → Circuit
circuit_with netlist lines stimuli default period =
    map (λ (net : NetView). record {
      name = net.name;
      part = net.part;
      pins = net.pins;
      wires = wires_of_net lines net;
      timing = timing_of_net default period lines net;
      stimuli = stimuli_named stimuli net.name;
    }) netlist.nets

-- the circuit of a netlist, a delay text and a stimulus text, with a default delay and a period, or the first fault
abbrev pub circuit_of : NetlistView → List ℕ → List ℕ → ℕ → ℕ → Result Circuit BuildFault
circuit_of netlist delay_text stimulus_text default period =
    option_map_or (λ fault. Err (Setting fault)) (option_fault default period) (do
      lines ← result_map_both (λ lines. lines) Timing (properties_of netlist delay_text)
      stimuli ← result_map_both (λ stimuli. stimuli) Stimulus (stimuli_of netlist stimulus_text)
      Ok (circuit_with netlist lines stimuli default period))

-- the design of a netlist with its texts and settings, or the first fault
abbrev pub design_of : NetlistView → List ℕ → List ℕ → ℕ → ℕ → Result DesignView BuildFault
design_of netlist delay_text stimulus_text default period =
    circuit_of netlist delay_text stimulus_text default period >>= λ circuit. Ok (record { netlist = netlist; circuit = circuit })
