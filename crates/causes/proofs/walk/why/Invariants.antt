use Rattle.std.proofs.Common.{◌≡◌, ℕ, ◌*◌, ◌+◌, ◌<◌, ◌≤◌, ◌++◌, length, Some}
use Rattle.causes.specs.Causes.{causes_of, causes_within}
use Rattle.causes.specs.Marks.{AreMarked, TookBy}
use Rattle.causes.proofs.Chain.{ticks_left}
use Rattle.causes.proofs.walk.why.Given as goal

abbrev pub invariant-loop-next : goal.invariant-loop-next
invariant-loop-next l = record {
  size : length l.marks.items ≡ 3 * length l.design.circuit;
  marked : AreMarked (length l.design.circuit) l.causes.items l.marks.items;
  took : TookBy l.tick l.causes.items;
  inside : (from : ℕ × ℕ) → l.next ≡ Some from → (from.0 < length l.design.circuit) × (from.1 ≤ l.tick);
  few : length l.causes.items + ticks_left l.next ≤ l.tick + 1;
  rest : l.causes.items ++ causes_within l.design.circuit (ticks_left l.next) l.causes.items l.next ≡ causes_of l.design.circuit l.net l.tick;
}

abbrev pub decreases-loop-next : goal.decreases-loop-next
decreases-loop-next l = ticks_left l.next
