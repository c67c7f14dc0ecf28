use Rattle.std.proofs.Common.{◌+◌, length}
use Rattle.fanin_cone.specs.Walk.{unmarked}
use Rattle.fanin_cone.proofs.Spreading.{IsSpread}
use Rattle.fanin_cone.proofs.dependents.marked_dependents.Given as goal

abbrev pub invariant-loop-net : goal.invariant-loop-net
invariant-loop-net l = IsSpread l.design l.starts l.marks.items l.waiting.items

abbrev pub decreases-loop-net : goal.decreases-loop-net
decreases-loop-net l = unmarked l.marks.items + length l.waiting.items
