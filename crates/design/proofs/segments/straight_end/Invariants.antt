use Rattle.std.proofs.Common.{ℕ, ◌-◌, ◌<◌, ◌≤◌, length}
use Rattle.design.specs.Segments.{past_of}
use Rattle.design.proofs.segments.straight_end.Given as goal

abbrev pub invariant-loop-end : goal.invariant-loop-end
invariant-loop-end l = record {
  from : l.begin ≤ l.end;
  within : l.end ≤ length l.ahead;
  straight : (place : ℕ) → l.begin ≤ place → place < l.end → past_of l.ahead place ≤ place;
}

abbrev pub decreases-loop-end : goal.decreases-loop-end
decreases-loop-end l = length l.ahead - l.end
