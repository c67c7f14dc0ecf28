use Rattle.std.proofs.Common.{◌-◌, length}
use Rattle.netlist.specs.Walk.{SeenBefore}
use Rattle.netlist.proofs.order.first_unseen.Given as goal

abbrev pub invariant-loop-place : goal.invariant-loop-place
invariant-loop-place l = SeenBefore l.seen l.pins l.place

abbrev pub decreases-loop-place : goal.decreases-loop-place
decreases-loop-place l = length l.pins - l.place
