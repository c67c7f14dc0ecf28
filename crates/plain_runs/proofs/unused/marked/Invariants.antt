-- The nets of the list so far are marked.
use Rattle.std.proofs.Common.{take}
use Rattle.plain_runs.specs.Unused.{AreMarks}
use Rattle.plain_runs.proofs.unused.marked.Given as goal

abbrev pub invariant-loop-number : goal.invariant-loop-number
invariant-loop-number l = AreMarks l.nets (take l.number-index l.numbers) l.marks.items
