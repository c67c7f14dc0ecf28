use Rattle.std.proofs.Common.{◌≤◌, All, take}
use Rattle.cmb_kernel.specs.State.{frontier_at}
use Rattle.kernel_runs.proofs.sweeps.known_of.Given as goal

abbrev pub invariant-loop-net : goal.invariant-loop-net
invariant-loop-net g l = record {
  within : l.known ≤ l.tick;
  each : All (λ net. l.known ≤ frontier_at l.kernel.state net) (take l.net-index l.nets);
}
