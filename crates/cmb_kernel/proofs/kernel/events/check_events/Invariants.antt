use Rattle.std.proofs.Common.{◌≡◌, drop}
use Rattle.cmb_kernel.specs.Refusals.{first_fault}
use Rattle.cmb_kernel.proofs.kernel.events.check_events.Given as goal

abbrev pub invariant-loop-at : goal.invariant-loop-at
invariant-loop-at l = first_fault l.design.circuit 0 l.events ≡ first_fault l.design.circuit l.at (drop l.at l.events)
