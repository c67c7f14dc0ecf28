-- The lanes so far and those to come are all.
use Rattle.std.proofs.Common.{◌≡◌, ◌++◌, drop, map}
use Rattle.serde_json.specs.View.{view}
use Rattle.vcd_dump.specs.Traces.{traces}
use Rattle.timing_diagram.specs.WavesPage.{net_lane}
use Rattle.timing_diagram.proofs.page_data.net_lanes.Given as goal

abbrev pub invariant-loop-place : goal.invariant-loop-place
invariant-loop-place l =
    map view l.lanes.items ++ map (net_lane l.columns) (traces l.design.circuit (drop l.place l.shown) (drop l.place l.waves))
    ≡ map (net_lane l.columns) (traces l.design.circuit l.shown l.waves)
