-- What went out, what waits and the lines of the rounds to come are the whole; and each round comes nearer to the end.
use Rattle.std.proofs.Common.{◌≡◌, ◌-◌, ◌++◌, false}
use Rattle.cmb_kernel.specs.State.{IsUndrained, least_frontier, most_rounds}
use Rattle.cmb_kernel.specs.Step.{completed_within}
use Rattle.event_trace.specs.ShownLines.{shown_text}
use Rattle.event_trace.specs.Trace.{lines_within}
use Rattle.event_trace.proofs.Completing.{RoundsLeft}
use Rattle.event_trace.proofs.rounds.walk_rounds.Given as goal

abbrev pub invariant-loop-alloc : goal.invariant-loop-alloc
invariant-loop-alloc g l = record {
  running : l.kernel.failed ≡ false;
  run : l.kernel ≡ record l.fn.kernel { state = l.kernel.state };
  undrained : IsUndrained l.kernel.state;
  rounds : RoundsLeft l.shown l.design.circuit (completed_within (most_rounds l.fn.kernel.end l.fn.kernel.circuit) l.fn.kernel.state)
      (g.W.Write.contents l.initial.out) (g.W.Write.contents l.out)
      (l.initial.text.items ++ shown_text l.shown l.design.circuit (lines_within (most_rounds l.fn.kernel.end l.fn.kernel.circuit) l.fn.kernel.state))
      l.rounds l.kernel.state l.text.items;
}

abbrev pub decreases-loop-alloc : goal.decreases-loop-alloc
decreases-loop-alloc g l = l.kernel.end - least_frontier l.kernel.end l.kernel.state
