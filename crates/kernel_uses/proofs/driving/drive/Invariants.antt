-- So many useful events led here, and nothing else.
use Rattle.cmb_kernel.specs.Useful.{remaining}
use Rattle.kernel_uses.specs.Runs.{UsefulEventsLead}
use Rattle.kernel_uses.specs.Runs.{IsLed}
use Rattle.kernel_uses.proofs.driving.drive.Given as goal

abbrev pub invariant-loop-event : goal.invariant-loop-event
invariant-loop-event g l = record {
  led : IsLed l.fn.kernel l.kernel;
  useful : UsefulEventsLead l.fn.kernel.circuit l.fn.kernel.state l.kernel.state l.count;
}

abbrev pub decreases-loop-event : goal.decreases-loop-event
decreases-loop-event g l = remaining l.fn.kernel.circuit l.fn.kernel.end l.kernel.state
