-- The text so far is the one before and the spaces so far.
use Rattle.std.proofs.Common.{◌≡◌, ◌++◌, replicate}
use Rattle.event_trace.proofs.frontier_cells.push_spaces.Given as goal

abbrev pub invariant-loop-space : goal.invariant-loop-space
invariant-loop-space l = l.text.items ≡ l.fn.text.items ++ replicate l._space 32
