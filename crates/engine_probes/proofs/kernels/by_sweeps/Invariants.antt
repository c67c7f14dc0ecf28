use Rattle.std.proofs.Common.{◌≡◌}
use Rattle.engine_probes.proofs.kernels.by_sweeps.Given as goal

abbrev pub invariant-loop-tick : goal.invariant-loop-tick
invariant-loop-tick g l = l.kernel.circuit ≡ l.fn.design.circuit
