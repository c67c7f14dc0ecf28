use Rattle.std.specs.Iterator.Adapters.{zip_first, zip_second}
use Rattle.std.specs.Slice.Iter.{iter_rest}
use Rattle.fanin_cone.proofs.SameNames.{IsLeft}
use Rattle.fanin_cone.proofs.agreement.has_same_names.Given as goal

abbrev pub invariant-loop-pin : goal.invariant-loop-pin
invariant-loop-pin l = record {
  able : (goal.iterator-loop-pin).can_next l.pin-iterator;
  finite : (goal.iterator-loop-pin).is_finite l.pin-iterator;
  left : IsLeft l.first l.second l.pins l.others (iter_rest (zip_first l.pin-iterator)) (iter_rest (zip_second l.pin-iterator));
}
