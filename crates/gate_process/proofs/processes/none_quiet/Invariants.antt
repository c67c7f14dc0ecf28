use Rattle.std.proofs.Common.{◌≡◌, replicate, false}
use Rattle.gate_process.proofs.processes.none_quiet.Given as goal

abbrev pub invariant-loop-process : goal.invariant-loop-process
invariant-loop-process l = l.quiet.items ≡ replicate l._process false
