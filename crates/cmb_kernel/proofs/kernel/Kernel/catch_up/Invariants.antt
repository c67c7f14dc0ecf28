use Rattle.std.proofs.Common.{length, slice_index_or, []}
use Rattle.cmb_kernel.proofs.SweepLoops.{CatchesUp}
use Rattle.cmb_kernel.proofs.kernel.Kernel.catch_up.Given as goal

abbrev pub invariant-loop-self : goal.invariant-loop-self
invariant-loop-self g l = CatchesUp l.tick l.pin l.fn.self l.self

abbrev pub decreases-loop-self : goal.decreases-loop-self
decreases-loop-self g l = length (slice_index_or l.self.state.lists l.pin [])
