-- What went out, what waits and the lines of the events to come are the whole; and these events lead to the end.
use Rattle.std.proofs.Common.{◌≡◌, ◌++◌, false, drop}
use Rattle.cmb_kernel.specs.State.{IsUndrained}
use Rattle.cmb_kernel.specs.Step.{steps}
use Rattle.texts.specs.Written.{GoesOut}
use Rattle.event_trace.specs.ShownLines.{shown_text}
use Rattle.event_trace.specs.Trace.{lines_of}
use Rattle.event_trace.proofs.walk.walk.Given as goal

abbrev pub invariant-loop-event : goal.invariant-loop-event
invariant-loop-event g l = record {
  running : l.kernel.failed ≡ false;
  circuit : l.kernel.circuit ≡ l.design.circuit;
  undrained : IsUndrained l.kernel.state;
  goes : record l.kernel { state = steps l.kernel.state (drop l.event-index l.events) }
      ≡ record l.fn.kernel { state = steps l.fn.kernel.state l.events };
  text : GoesOut (g.W.Write.contents l.initial.out) (g.W.Write.contents l.out)
      (l.initial.text.items ++ shown_text l.shown l.design.circuit (lines_of l.fn.kernel.state l.events))
      (l.text.items ++ shown_text l.shown l.design.circuit (lines_of l.kernel.state (drop l.event-index l.events)));
}
