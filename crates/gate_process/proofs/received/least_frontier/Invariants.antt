use Rattle.std.proofs.Common.{◌≡◌, ◌+◌, ◌≤◌}
use Rattle.timing_text.specs.Ranges.{most_delay, most_ticks}
use Rattle.gate_process.proofs.SeenPins.{least_so_far}
use Rattle.gate_process.proofs.received.least_frontier.Given as goal

abbrev pub invariant-loop-place : goal.invariant-loop-place
invariant-loop-place l = record {
  least : l.least ≡ least_so_far l.none l.wires l.received l.place;
  within : l.least ≤ most_ticks + 1 + most_delay;
}
