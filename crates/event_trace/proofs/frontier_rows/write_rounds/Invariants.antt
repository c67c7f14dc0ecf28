-- What went out, what waits and the rows of the rounds to come are the whole; and each round comes nearer to the end.
use Rattle.std.proofs.Common.{◌≡◌, ◌-◌, ◌++◌, false}
use Rattle.cmb_kernel.specs.State.{least_frontier, most_rounds}
use Rattle.event_trace.specs.Frontiers.{rows_within, table_text}
use Rattle.event_trace.proofs.TableRounds.{RowsLeft}
use Rattle.event_trace.proofs.frontier_rows.write_rounds.Given as goal

abbrev pub invariant-loop-kernel : goal.invariant-loop-kernel
invariant-loop-kernel g l = record {
  running : l.kernel.failed ≡ false;
  run : l.kernel ≡ record l.fn.kernel { state = l.kernel.state };
  rounds : RowsLeft l.fn.kernel.circuit l.fn.kernel.end l.nets (g.W.Write.contents l.initial.out) (g.W.Write.contents l.out)
      (l.initial.text.items ++ table_text l.fn.kernel.circuit l.fn.kernel.end l.nets
      (rows_within (most_rounds l.fn.kernel.end l.fn.kernel.circuit) l.fn.kernel.state))
      l.kernel.state l.text.items;
}

abbrev pub decreases-loop-kernel : goal.decreases-loop-kernel
decreases-loop-kernel g l = l.kernel.end - least_frontier l.kernel.end l.kernel.state
