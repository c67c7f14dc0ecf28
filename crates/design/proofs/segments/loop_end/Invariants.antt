use Rattle.std.proofs.Common.{ℕ, ◌-◌, ◌<◌, ◌≤◌, length}
use Rattle.design.specs.Segments.{past_of}
use Rattle.design.proofs.segments.loop_end.Given as goal

abbrev pub invariant-loop-at : goal.invariant-loop-at
invariant-loop-at l = record {
  from : l.begin ≤ l.at;
  to : l.at ≤ l.end;
  some_net : l.begin < l.end;
  within : l.end ≤ length l.ahead;
  closed : (place : ℕ) → l.begin ≤ place → place < l.at → past_of l.ahead place ≤ l.end;
  whole : (cut : ℕ) → l.begin < cut → cut < l.end → (place : ℕ) × (l.begin ≤ place) × (place < cut) × (cut < past_of l.ahead place);
}

abbrev pub decreases-loop-at : goal.decreases-loop-at
decreases-loop-at l = length l.ahead - l.at
