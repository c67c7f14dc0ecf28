-- The pins at the places so far took all that waits there.
use Rattle.kernel_uses.proofs.Takes.{HeardSome}
use Rattle.kernel_uses.proofs.work_lists.hear_all.Given as goal

abbrev pub invariant-loop-place : goal.invariant-loop-place
invariant-loop-place g l = HeardSome l.net l.place l.fn.kernel l.kernel
