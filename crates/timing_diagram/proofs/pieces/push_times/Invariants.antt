use Rattle.std.proofs.Common.{◌≡◌, ◌++◌, replicate}
use Rattle.timing_diagram.proofs.pieces.push_times.Given as goal

abbrev pub invariant-loop-time : goal.invariant-loop-time
invariant-loop-time l = l.text.items ≡ l.fn.text.items ++ replicate l._time l.byte
