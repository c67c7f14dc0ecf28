use Rattle.std.proofs.Common.{◌≡◌, [], false, get_or, sym, ap, ◌∙◌, arith}
use Rattle.netlist.specs.Marks.{is_seen}
use Rattle.netlist.proofs.Walking.{IsWalk-enter}
use Rattle.netlist.proofs.WalkEnds.{IsWalk-start, left_each}
use Rattle.netlist.proofs.order.gate_order.Goals as goal

pub loop-net-init : goal.loop-net-init
loop-net-init c = record {
  walk = rw c.new-2.ensures.items (IsWalk-start c.args.netlist.now.nets c.in_ok-other_nets.field-0.items c.in_ok-other_nets.ensures);
  path = c.new.ensures.items;
  seen = λ net below. absurd (omega (arith, below));
}

pub leave_all-requires-clause-walk : goal.leave_all-requires-clause-walk
leave_all-requires-clause-walk c =
    let at = c.index.ensures ∙ ap (get_or c.loop-net.walk.seen.items c.loop-net.net) c.if-not-index.true in
    let new : is_seen c.loop-net.walk.seen.items c.loop-net.net ≡ false = sym at ∙ c.if-not-index.true in
    rw (c.in_ok-enter.ensures.seen, c.in_ok-enter.ensures.path, c.in_ok-enter.ensures.left, c.loop-net.invariant.path)
    (IsWalk-enter [] c.loop-net.invariant.walk c.loop-net.net (omega (arith, c.loop-net-test.true, c.nets-net-end.ensures.nets)) new (λ k d within. absurd (omega (arith, within))))

pub returns-clause-each : goal.returns-clause-each
returns-clause-each c = left_each c.args.netlist.now.nets c.loop-net.walk.seen.items c.loop-net.walk.left.items
    (λ net below. c.loop-net.invariant.seen net (omega (arith, below, c.nets-net-end.ensures.nets))) c.loop-net.invariant.walk
