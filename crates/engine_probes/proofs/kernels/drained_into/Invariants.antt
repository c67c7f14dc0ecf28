use Rattle.std.proofs.Common.{◌≡◌}
use Rattle.engine_probes.proofs.kernels.drained_into.Given as goal

abbrev pub invariant-loop-net : goal.invariant-loop-net
invariant-loop-net g l = l.kernel.circuit ≡ l.fn.design.circuit
