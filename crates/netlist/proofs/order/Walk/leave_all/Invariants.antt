use Rattle.std.proofs.Common.{◌+◌, ◌*◌, length}
use Rattle.netlist.specs.Marks.{unseen, KeepsSeen}
use Rattle.netlist.specs.Walk.{IsWalk}
use Rattle.netlist.proofs.order.Walk.leave_all.Given as goal

abbrev pub invariant-loop-step : goal.invariant-loop-step
invariant-loop-step l = record {
  walk : IsWalk l.netlist.nets l.self.seen.items l.self.path.items l.self.left.items;
  kept : KeepsSeen l.initial.self.seen.items l.self.seen.items;
}

-- a step sees one more net, and the path grows by one, or the path shrinks
abbrev pub decreases-loop-step : goal.decreases-loop-step
decreases-loop-step l = 2 * unseen l.self.seen.items + length l.self.path.items
