-- The lines so far make the sections that were found, and break no rule.
use Rattle.std.proofs.Common.{◌+◌, ◌≤◌, length}
use Rattle.prepared_runs.specs.Deck.{ended_lines}
use Rattle.prepared_runs.proofs.Found.{Reached}
use Rattle.prepared_runs.proofs.sections.sections_behind.Given as goal

abbrev pub invariant-loop-line : goal.invariant-loop-line
invariant-loop-line l = record {
  reached : Reached (ended_lines l.text) l.found l.lines (ended_lines l.rest);
  within : l.lines + length l.rest ≤ length l.text;
}

abbrev pub decreases-loop-line : goal.decreases-loop-line
decreases-loop-line l = length l.rest
