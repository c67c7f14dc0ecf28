-- The pin took messages, and nothing else happened.
use Rattle.std.proofs.Common.{[], length, slice_index_or}
use Rattle.kernel_uses.specs.Work.{HasTaken}
use Rattle.kernel_uses.proofs.work_lists.take_all.Given as goal

abbrev pub invariant-loop-kernel : goal.invariant-loop-kernel
invariant-loop-kernel g l = HasTaken l.pin l.fn.kernel l.kernel

abbrev pub decreases-loop-kernel : goal.decreases-loop-kernel
decreases-loop-kernel g l = length (slice_index_or l.kernel.state.lists l.pin [])
