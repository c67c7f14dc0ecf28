use Rattle.std.proofs.Common.{◌≡◌, length}
use Rattle.design.specs.Segments.{IsPast}
use Rattle.design.proofs.segments.places_past.Given as goal

abbrev pub invariant-loop-place : goal.invariant-loop-place
invariant-loop-place l = record {
  size : length l.past.items ≡ length l.design.circuit;
  past : IsPast l.order l.place l.past.items;
}
