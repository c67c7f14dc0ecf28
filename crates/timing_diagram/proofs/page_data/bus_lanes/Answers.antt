use Rattle.std.proofs.Common.{◌∙◌, map}
use Rattle.serde_json.specs.View.{view}
use Rattle.timing_diagram.specs.Bus.{seen_bus}
use Rattle.timing_diagram.specs.WavesPage.{bus_lane}
use Rattle.timing_diagram.proofs.Lanes.{lanes-next, viewed-more}
use Rattle.timing_diagram.proofs.Nets.{bus-next}
use Rattle.timing_diagram.proofs.page_data.bus_lanes.Goals as goal

pub loop-bus-preserved : goal.loop-bus-preserved
loop-bus-preserved c =
    let lanes = c.loop-bus.lanes.items in
    lanes-next (bus_lane c.args.columns) (seen_bus c.bus-item.result) _ _ (map view lanes) (map view c.push.new.self.items)
    (bus-next c.args.buses.now c.loop-bus.bus-index c.bus-item.result c.loop-bus-test.true c.bus-item.is)
    (viewed-more lanes c.push.new.self.items c.in_ok-bus_lane.field-0 _ c.in_ok-push.ensures.items c.in_ok-bus_lane.ensures)
    ∙ c.loop-bus.invariant
