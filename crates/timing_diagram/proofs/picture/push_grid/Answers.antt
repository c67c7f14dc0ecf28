use Rattle.std.proofs.Common.{arith, ◌∙◌}
use Rattle.timing_diagram.specs.Picture.{grid_line}
use Rattle.timing_diagram.proofs.Joined.{from_on-more}
use Rattle.timing_diagram.proofs.picture.push_grid.Goals as goal

pub loop-place-preserved : goal.loop-place-preserved
loop-place-preserved c =
    from_on-more (grid_line c.args.left c.args.height c.args.columns) c.loop-place.place c.label_count-place-end.result _ _ (omega arith) c.in_ok-push_grid_line.ensures
    ∙ c.loop-place.invariant
