use Rattle.std.proofs.Common.{◌≡◌, count_by, take}
use Rattle.netlist.specs.Netlist.{NetView}
use Rattle.netlist.specs.Part.{is_gate}
use Rattle.circuit_info.proofs.counts.gate_count.Given as goal

abbrev pub invariant-loop-net : goal.invariant-loop-net
invariant-loop-net l = l.gates ≡ count_by (λ (net : NetView). is_gate net.part) (take l.net l.netlist.nets)
