use Rattle.std.proofs.Common.{rules}
use Rattle.plain_runs.proofs.Marked.{AreMarks-more, AreMarks-none}
use Rattle.plain_runs.proofs.unused.marked.Goals as goal

pub loop-number-init : goal.loop-number-init
loop-number-init c = rw (c.in_ok-marks.ensures.items_if_clones_equal (λ y same. search rules)) (AreMarks-none c.args.nets c.args.numbers.now)

pub loop-number-preserved : goal.loop-number-preserved
loop-number-preserved c =
    AreMarks-more c.args.nets c.args.numbers.now c.loop-number.marks.items c.loop-number.number-index c.loop-number-test.true
    (c.requires c.loop-number.number-index 0 c.loop-number-test.true) c.loop-number.invariant
