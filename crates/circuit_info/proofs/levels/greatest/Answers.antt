use Rattle.std.proofs.Common.{arith}
use Rattle.circuit_info.proofs.Tops.{greatest_more}
use Rattle.circuit_info.proofs.levels.greatest.Goals as goal
use Rattle.circuit_info.proofs.levels.greatest.Goals.{then-number-top, else-number-top}

pub loop-number-preserved : goal.loop-number-preserved
loop-number-preserved c =
    let more = greatest_more c.args.numbers.now c.loop-number.number-index c.loop-number-test.true in
    elim c.if-number-top.branch [
      | then-number-top w ↦ omega (arith, more, c.loop-number.invariant, w.top-is, w.if-number-top.true)
      | else-number-top w ↦ omega (arith, more, c.loop-number.invariant, w.top-is, w.if-number-top.false)
    ]
