-- No half is told of ticks past the end, and each turn tells of more.
use Rattle.std.proofs.Common.{◌-◌, ◌≤◌}
use Rattle.kernel_uses.proofs.halves.run_in_turns.Given as goal

abbrev pub invariant-loop-to_first : goal.invariant-loop-to_first
invariant-loop-to_first l = l.to_first.ticks ≤ l.end

abbrev pub decreases-loop-to_first : goal.decreases-loop-to_first
decreases-loop-to_first l = l.end - l.to_first.ticks
