use Rattle.std.proofs.Common.{◌≡◌, ◌==◌, count_by, take}
use Rattle.netlist.specs.Netlist.{NetView}
use Rattle.circuit_info.specs.Counts.{part_code}
use Rattle.circuit_info.proofs.counts.part_count.Given as goal

abbrev pub invariant-loop-net : goal.invariant-loop-net
invariant-loop-net l = l.count ≡ count_by (λ (net : NetView). part_code net.part == part_code l.part) (take l.net l.netlist.nets)
