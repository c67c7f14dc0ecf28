-- The lanes so far and those to come are all.
use Rattle.std.proofs.Common.{◌≡◌, ◌++◌, drop, map}
use Rattle.serde_json.specs.View.{view}
use Rattle.timing_diagram.specs.Bus.{seen_bus}
use Rattle.timing_diagram.specs.WavesPage.{bus_lane}
use Rattle.timing_diagram.proofs.page_data.bus_lanes.Given as goal

abbrev pub invariant-loop-bus : goal.invariant-loop-bus
invariant-loop-bus l =
    map view l.lanes.items ++ map (bus_lane l.columns) (drop l.bus-index (map seen_bus l.buses))
    ≡ map (bus_lane l.columns) (map seen_bus l.buses)
