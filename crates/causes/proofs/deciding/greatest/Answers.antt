use Rattle.std.proofs.Common.{arith}
use Rattle.causes.proofs.Places.{greatest_more}
use Rattle.causes.proofs.deciding.greatest.Goals as goal
use Rattle.causes.proofs.deciding.greatest.Goals.{then-tick-top, else-tick-top}

pub loop-tick-preserved : goal.loop-tick-preserved
loop-tick-preserved c =
    let more = greatest_more c.args.ticks.now c.loop-tick.tick-index c.loop-tick-test.true in
    elim c.if-tick-top.branch [
      | then-tick-top w ↦ omega (arith, more, c.loop-tick.invariant, w.top-is, w.if-tick-top.true)
      | else-tick-top w ↦ omega (arith, more, c.loop-tick.invariant, w.top-is, w.if-tick-top.false)
    ]
