use Rattle.netlist.specs.Marks.{unseen}
use Rattle.circuit_info.specs.Known.{IsWay}
use Rattle.circuit_info.proofs.loops.named_loop.Given as goal

abbrev pub invariant-loop-passed : goal.invariant-loop-passed
invariant-loop-passed l = IsWay l.netlist l.start l.passed.items l.way.items l.net

abbrev pub decreases-loop-passed : goal.decreases-loop-passed
decreases-loop-passed l = unseen l.passed.items
