use Rattle.fanin_cone.proofs.Numbered.{IsNumbered}
use Rattle.fanin_cone.proofs.cones.marked_nets.Given as goal

abbrev pub invariant-loop-net : goal.invariant-loop-net
invariant-loop-net l = IsNumbered l.marks l.net l.nets.items
