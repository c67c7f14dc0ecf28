-- The run went on.
use Rattle.std.proofs.Common.{◌-◌}
use Rattle.kernel_runs.specs.Paces.{GoesOn}
use Rattle.kernel_runs.proofs.sweeps.sweep_loop.Given as goal

abbrev pub invariant-loop-known : goal.invariant-loop-known
invariant-loop-known g l = GoesOn l.fn.kernel l.kernel

abbrev pub decreases-loop-known : goal.decreases-loop-known
decreases-loop-known g l = l.tick - l.known
