use Rattle.std.proofs.Common.{◌≡◌, replicate}
use Rattle.gate_process.proofs.processes.none_heard.Given as goal

abbrev pub invariant-loop-process : goal.invariant-loop-process
invariant-loop-process l = l.heard.items ≡ replicate l._process 0
