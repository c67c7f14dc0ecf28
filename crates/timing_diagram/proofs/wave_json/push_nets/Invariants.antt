-- The lanes so far and those to come are all.
use Rattle.std.proofs.Common.{◌≡◌, ◌++◌, drop, map}
use Rattle.serde_json.specs.View.{view}
use Rattle.vcd_dump.specs.Traces.{traces}
use Rattle.timing_diagram.specs.WaveJson.{net_data}
use Rattle.timing_diagram.proofs.wave_json.push_nets.Given as goal

abbrev pub invariant-loop-place : goal.invariant-loop-place
invariant-loop-place l =
    map view l.lanes.items ++ map (net_data l.columns) (traces l.design.circuit (drop l.place l.shown) (drop l.place l.waves))
    ≡ map view l.fn.lanes.items ++ map (net_data l.columns) (traces l.design.circuit l.shown l.waves)
