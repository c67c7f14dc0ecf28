use Rattle.std.proofs.Common.{◌-◌}
use Rattle.cmb_kernel.specs.State.{least_frontier}
use Rattle.cmb_kernel.proofs.Enough.{RoundsTo}
use Rattle.cmb_kernel.proofs.kernel.Kernel.complete.Given as goal

abbrev pub invariant-loop-self : goal.invariant-loop-self
invariant-loop-self g l = RoundsTo l.fn.self l.self

abbrev pub decreases-loop-self : goal.decreases-loop-self
decreases-loop-self g l = l.self.end - least_frontier l.self.end l.self.state
