use Rattle.cmb_kernel.proofs.Moved.{DeliveredTo}
use Rattle.cmb_kernel.proofs.kernel.Kernel.deliver_all.Given as goal

abbrev pub invariant-loop-pin : goal.invariant-loop-pin
invariant-loop-pin g l = DeliveredTo l.fn.self l.self l.pin
