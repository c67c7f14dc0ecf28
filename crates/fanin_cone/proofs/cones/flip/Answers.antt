use Rattle.std.proofs.Common.{not, false, arith}
use Rattle.std.proofs.lemmas.List.{get_or_default}
use Rattle.std.proofs.lemmas.List.Edits.{map_over_more}
use Rattle.fanin_cone.proofs.cones.flip.Goals as goal

pub loop-mark-preserved : goal.loop-mark-preserved
loop-mark-preserved c =
    map_over_more not c.args.marks.now c.loop-mark.marks c.loop-mark.mark-index _ c.loop-mark-test.true c.loop-mark.invariant
    (get_or_default c.loop-mark.marks c.loop-mark.mark-index false _ (omega (arith, c.loop-mark-test.true, c.loop-mark.auto.marks)))
