use Rattle.std.proofs.Common.{◌≡◌, not, map}
use Rattle.std.specs.List.{range_with_len}
use Rattle.netlist.specs.Flow.{is_gate_in}
use Rattle.netlist.proofs.order.other_nets.Given as goal

abbrev pub invariant-loop-net : goal.invariant-loop-net
invariant-loop-net l = l.others.items ≡ map (λ net. not (is_gate_in l.netlist.nets net)) (range_with_len 0 l.net)
