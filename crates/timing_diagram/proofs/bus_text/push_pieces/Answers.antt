use Rattle.std.proofs.Common.{arith, ◌∙◌, map}
use Rattle.logic3.specs.Wave.{value_at}
use Rattle.timing_diagram.specs.Drawing.{bus_piece}
use Rattle.timing_diagram.proofs.Joined.{from_on-more}
use Rattle.timing_diagram.proofs.bus_text.push_pieces.Goals as goal

pub loop-column-preserved : goal.loop-column-preserved
loop-column-preserved c =
    from_on-more (bus_piece (map value_at c.args.bits.now) c.args.columns) c.loop-column.column c.count-column-end.result _ _ (omega arith)
    c.in_ok-push_piece.ensures ∙ c.loop-column.invariant
