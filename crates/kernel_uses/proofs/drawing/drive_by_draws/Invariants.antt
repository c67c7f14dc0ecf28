-- Useful events led here, and nothing else.
use Rattle.std.proofs.Common.{ℕ}
use Rattle.cmb_kernel.specs.Useful.{remaining}
use Rattle.kernel_uses.specs.Runs.{IsLed, UsefulEventsLead}
use Rattle.kernel_uses.proofs.drawing.drive_by_draws.Given as goal

abbrev pub invariant-loop-event : goal.invariant-loop-event
invariant-loop-event g l = record {
  led : IsLed l.fn.kernel l.kernel;
  useful : (count : ℕ) × UsefulEventsLead l.fn.kernel.circuit l.fn.kernel.state l.kernel.state count;
}

abbrev pub decreases-loop-event : goal.decreases-loop-event
decreases-loop-event g l = remaining l.fn.kernel.circuit l.fn.kernel.end l.kernel.state
