use Rattle.std.proofs.Common.{◌≡◌, ℕ, ◌<◌, [], IsTrue}
use Rattle.netlist.specs.Marks.{is_seen}
use Rattle.netlist.specs.Walk.{IsWalk}
use Rattle.netlist.proofs.order.gate_order.Given as goal

abbrev pub invariant-loop-net : goal.invariant-loop-net
invariant-loop-net l = record {
  walk : IsWalk l.netlist.nets l.walk.seen.items [] l.walk.left.items;
  path : l.walk.path.items ≡ [];
  seen : (net : ℕ) → net < l.net → IsTrue (is_seen l.walk.seen.items net);
}
