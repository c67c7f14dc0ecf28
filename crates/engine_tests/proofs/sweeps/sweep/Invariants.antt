use Rattle.std.proofs.Common.{◌≡◌}
use Rattle.engine_tests.proofs.sweeps.sweep.Given as goal

abbrev pub invariant-loop-tick : goal.invariant-loop-tick
invariant-loop-tick g l = l.kernel.circuit ≡ l.fn.kernel.circuit
