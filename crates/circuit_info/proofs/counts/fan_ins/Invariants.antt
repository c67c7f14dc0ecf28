use Rattle.std.proofs.Common.{◌≡◌, length, map, take}
use Rattle.netlist.specs.Netlist.{NetView}
use Rattle.circuit_info.proofs.counts.fan_ins.Given as goal

abbrev pub invariant-loop-net : goal.invariant-loop-net
invariant-loop-net l = l.counts.items ≡ map (λ (net : NetView). length net.pins) (take l.net l.netlist.nets)
