use Rattle.std.proofs.Common.{◌∙◌, map}
use Rattle.logic3.specs.Wave.{value_at}
use Rattle.serde_json.specs.View.{view}
use Rattle.timing_diagram.specs.WavesPage.{bit_lane}
use Rattle.timing_diagram.proofs.Lanes.{lanes-next, viewed-more}
use Rattle.timing_diagram.proofs.Nets.{bit-next}
use Rattle.timing_diagram.proofs.page_data.bit_lanes.Goals as goal

pub loop-bit-preserved : goal.loop-bit-preserved
loop-bit-preserved c =
    let lanes = c.loop-bit.lanes.items in
    lanes-next (bit_lane c.args.columns) (value_at c.bit-item.result) _ _ (map view lanes) (map view c.push.new.self.items)
    (bit-next c.args.bits.now c.loop-bit.bit-index c.bit-item.result c.loop-bit-test.true c.bit-item.is)
    (viewed-more lanes c.push.new.self.items c.in_ok-bit_lane.field-0 _ c.in_ok-push.ensures.items c.in_ok-bit_lane.ensures)
    ∙ c.loop-bit.invariant
