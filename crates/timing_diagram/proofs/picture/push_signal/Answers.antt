use Rattle.std.proofs.Common.{arith, ◌∙◌}
use Rattle.logic3.specs.Wave.{value_at}
use Rattle.timing_diagram.specs.Picture.{column_path}
use Rattle.timing_diagram.proofs.Joined.{from_on-more}
use Rattle.timing_diagram.proofs.picture.push_signal.Goals as goal

pub loop-column-preserved : goal.loop-column-preserved
loop-column-preserved c =
    from_on-more (column_path (value_at c.args.wave.now) c.args.columns) c.loop-column.column c.count-column-end.result _ _ (omega arith) c.in_ok-push_column.ensures
    ∙ c.loop-column.invariant
