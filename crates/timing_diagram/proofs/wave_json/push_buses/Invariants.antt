-- The lanes so far and those to come are all.
use Rattle.std.proofs.Common.{◌≡◌, ◌++◌, drop, map}
use Rattle.serde_json.specs.View.{view}
use Rattle.timing_diagram.specs.Bus.{seen_bus}
use Rattle.timing_diagram.specs.WaveJson.{bus_data}
use Rattle.timing_diagram.proofs.wave_json.push_buses.Given as goal

abbrev pub invariant-loop-bus : goal.invariant-loop-bus
invariant-loop-bus l =
    map view l.lanes.items ++ map (bus_data l.columns) (drop l.bus-index (map seen_bus l.buses))
    ≡ map view l.fn.lanes.items ++ map (bus_data l.columns) (map seen_bus l.buses)
