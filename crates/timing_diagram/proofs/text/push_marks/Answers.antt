use Rattle.std.proofs.Common.{arith, ◌∙◌, ◌++◌, ◌∷◌, [], ap}
use Rattle.logic3.specs.Wave.{value_at}
use Rattle.timing_diagram.specs.Marks.{mark_at}
use Rattle.timing_diagram.specs.Drawing.{mark_byte}
use Rattle.timing_diagram.proofs.Joined.{map-more}
use Rattle.timing_diagram.proofs.text.push_marks.Goals as goal

pub loop-column-preserved : goal.loop-column-preserved
loop-column-preserved c =
    map-more (λ column. mark_byte (mark_at (value_at c.args.wave.now) c.args.columns column)) c.loop-column.column c.count-column-end.result _ _ (omega arith)
    (c.in_ok-push.ensures.items ∙ ap (λ byte. c.loop-column.text.items ++ byte ∷ []) (c.mark_byte.ensures ∙ ap mark_byte c.mark_at.ensures))
    ∙ c.loop-column.invariant
