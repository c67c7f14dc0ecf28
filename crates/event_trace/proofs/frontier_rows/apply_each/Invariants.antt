-- The events to come lead to the end.
use Rattle.std.proofs.Common.{◌≡◌, false, drop}
use Rattle.cmb_kernel.specs.Step.{steps}
use Rattle.event_trace.proofs.frontier_rows.apply_each.Given as goal

abbrev pub invariant-loop-event : goal.invariant-loop-event
invariant-loop-event l = record {
  running : l.kernel.failed ≡ false;
  circuit : l.kernel.circuit ≡ l.fn.kernel.circuit;
  goes : record l.kernel { state = steps l.kernel.state (drop l.event-index l.events) }
      ≡ record l.fn.kernel { state = steps l.fn.kernel.state l.events };
}
