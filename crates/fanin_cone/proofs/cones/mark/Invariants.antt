use Rattle.std.proofs.Common.{take}
use Rattle.fanin_cone.specs.Walk.{Marks}
use Rattle.fanin_cone.proofs.cones.mark.Given as goal

abbrev pub invariant-loop-net : goal.invariant-loop-net
invariant-loop-net l = Marks (take l.net-index l.nets) l.initial.marks l.marks l.initial.list.items l.list.items
