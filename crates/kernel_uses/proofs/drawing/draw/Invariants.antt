-- What was drawn is useful, and where nothing was, no event so far is.
use Rattle.std.proofs.Common.{◌≡◌, ℕ, ◌<◌, ◌≤◌, true, false}
use Rattle.std.specs.Option.{IfNone, IfSome}
use Rattle.cmb_events.specs.Schedule.{Exists}
use Rattle.cmb_kernel.specs.Useful.{is_useful}
use Rattle.kernel_uses.specs.Work.{event_numbered}
use Rattle.kernel_uses.proofs.drawing.draw.Given as goal

abbrev pub invariant-loop-number : goal.invariant-loop-number
invariant-loop-number g l = record {
  some : IfSome l.drawn (λ event. Exists l.fn.kernel.circuit event × (is_useful l.fn.kernel.state event ≡ true));
  none : IfNone l.drawn ((number : ℕ) → number < l.number →
      is_useful l.fn.kernel.state (event_numbered l.fn.kernel.circuit number) ≡ false);
  found : l.found ≤ l.number;
}
