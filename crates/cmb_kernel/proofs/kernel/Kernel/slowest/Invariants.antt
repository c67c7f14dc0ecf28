use Rattle.std.proofs.Common.{ℕ, ◌<◌, ◌≤◌, length}
use Rattle.cmb_kernel.specs.State.{frontier_at}
use Rattle.cmb_kernel.proofs.kernel.Kernel.slowest.Given as goal

abbrev pub invariant-loop-net : goal.invariant-loop-net
invariant-loop-net g l = record {
  there : l.slowest < length l.self.circuit;
  least : (net : ℕ) → net < l.net → frontier_at l.self.state l.slowest ≤ frontier_at l.self.state net;
}
