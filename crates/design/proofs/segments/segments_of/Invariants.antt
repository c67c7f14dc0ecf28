use Rattle.std.proofs.Common.{◌-◌, ◌≤◌, length}
use Rattle.design.specs.Segments.{LieBetween}
use Rattle.design.proofs.segments.segments_of.Given as goal

abbrev pub invariant-loop-begin : goal.invariant-loop-begin
invariant-loop-begin l = record {
  within : l.begin ≤ length l.ahead.items;
  lie : LieBetween l.design.circuit l.order 0 l.segments.items l.begin;
}

abbrev pub decreases-loop-begin : goal.decreases-loop-begin
decreases-loop-begin l = length l.ahead.items - l.begin
