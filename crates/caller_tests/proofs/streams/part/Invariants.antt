-- The changes so far are those of a span up to the next tick.
use Rattle.std.proofs.Common.{◌≤◌}
use Rattle.vcd_dump.specs.Spans.{IsPart}
use Rattle.caller_tests.proofs.streams.part.Given as goal

abbrev pub invariant-loop-change : goal.invariant-loop-change
invariant-loop-change g l = (l.from ≤ l.next) × IsPart l.from l.next l.part.items
