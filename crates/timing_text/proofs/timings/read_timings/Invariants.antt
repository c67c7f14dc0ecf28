use Rattle.std.proofs.Common.{◌≡◌, List, map, take}
use Rattle.timing_text.specs.TimingLines.{NetProperty}
use Rattle.timing_text.specs.GivenSoFar.{given_to_nets, seen_given}
use Rattle.timing_text.specs.Timings.{timing_of_net, wires_of_net}
use Rattle.timing_text.proofs.timings.read_timings.Given as goal

abbrev pub invariant-loop-net : goal.invariant-loop-net
invariant-loop-net l = record {
  timings : (lines : List NetProperty) → map seen_given l.given.items ≡ given_to_nets l.netlist lines →
      l.timings.items ≡ map (timing_of_net l.default_delay l.period lines) (take l.net l.netlist.nets);
  wires : (lines : List NetProperty) → map seen_given l.given.items ≡ given_to_nets l.netlist lines →
      l.wires ≡ map (wires_of_net lines) (take l.net l.netlist.nets);
}
