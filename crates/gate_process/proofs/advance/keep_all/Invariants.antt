use Rattle.gate_process.proofs.Kept.{KeptBelow}
use Rattle.gate_process.proofs.advance.keep_all.Given as goal

abbrev pub invariant-loop-place : goal.invariant-loop-place
invariant-loop-place l = KeptBelow l.net l.frontier l.initial.received l.place l.received
