-- The lines so far are the first ones, and lines end at none of them.
use Rattle.std.proofs.Common.{◌≡◌, ◌+◌, ◌≤◌, length, drop}
use Rattle.std.specs.List.{position_or_len}
use Rattle.prepared_runs.specs.Deck.{ended_lines}
use Rattle.prepared_runs.specs.Seen.{stops}
use Rattle.prepared_runs.proofs.sections.split_front.Given as goal

abbrev pub invariant-loop-after : goal.invariant-loop-after
invariant-loop-after l = record {
  rest : ended_lines l.rest ≡ drop l.lines (ended_lines l.text);
  place : position_or_len (stops l.in_section) (ended_lines l.text) ≡ l.lines + position_or_len (stops l.in_section) (ended_lines l.rest);
  within : l.lines + length l.rest ≤ length l.text;
}

abbrev pub decreases-loop-after : goal.decreases-loop-after
decreases-loop-after l = length l.rest
