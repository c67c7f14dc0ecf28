use Rattle.std.proofs.Common.{length}
use Rattle.gate_process.proofs.Delayed.{Passes}
use Rattle.gate_process.proofs.kept_changes.pass_due.Given as goal

abbrev pub invariant-loop-first : goal.invariant-loop-first
invariant-loop-first l = Passes l.wire l.tick l.value l.left l.fn.before l.fn.changes

abbrev pub decreases-loop-first : goal.decreases-loop-first
decreases-loop-first l = length l.left
