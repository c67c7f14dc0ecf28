use Rattle.std.proofs.Common.{arith}
use Rattle.design.proofs.Cutting.{loop_closed, loop_whole}
use Rattle.design.proofs.segments.loop_end.Goals as goal
use Rattle.design.proofs.segments.loop_end.Goals.{then-ahead-at, else-ahead-at}

pub loop-at-preserved : goal.loop-at-preserved
loop-at-preserved c =
    let so_far = c.loop-at.invariant in
    elim c.if-ahead-at.branch [
      | then-ahead-at w ↦ record {
        from = omega (arith, so_far.from);
        to = omega (arith, c.loop-at-test.true, w.if-ahead-at.true, w.end-is);
        some_net = omega (arith, so_far.some_net, w.if-ahead-at.true, w.end-is);
        within = rw w.end-is (c.requires.within c.loop-at.at 0 (omega (arith, so_far.within, c.loop-at-test.true)));
        closed = loop_closed c.args.ahead.now c.args.begin c.loop-at.at c.loop-at.end c.if-ahead-at.end
            (omega (arith, w.if-ahead-at.true, w.end-is)) (omega (arith, w.end-is)) so_far.closed;
        whole = loop_whole c.args.ahead.now c.args.begin c.loop-at.at c.loop-at.end c.if-ahead-at.end so_far.from c.loop-at-test.true
            (omega (arith, w.end-is)) so_far.whole;
      }
      | else-ahead-at w ↦ rw w.end-is record {
        from = omega (arith, so_far.from);
        to = omega (arith, c.loop-at-test.true);
        some_net = so_far.some_net;
        within = so_far.within;
        closed = loop_closed c.args.ahead.now c.args.begin c.loop-at.at c.loop-at.end c.loop-at.end
            (omega arith) (omega (arith, w.if-ahead-at.false)) so_far.closed;
        whole = so_far.whole;
      }
    ]
