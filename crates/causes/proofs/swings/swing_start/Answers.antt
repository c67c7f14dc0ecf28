use Rattle.std.proofs.Common.{◌∙◌, sym}
use Rattle.design.specs.Equations.{signals_in}
use Rattle.causes.proofs.SwingStarts.{start_back}
use Rattle.causes.proofs.swings.swing_start.Goals as goal

pub loop-start-preserved : goal.loop-start-preserved
loop-start-preserved c =
    start_back (signals_in c.args.waves.now c.args.net) c.args.period c.loop-start.start c.loop-start-test.true
    (sym c.repeats.ensures ∙ c.if-repeats.true)
    ∙ c.loop-start.invariant
