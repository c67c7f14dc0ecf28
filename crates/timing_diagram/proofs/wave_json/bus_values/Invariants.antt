-- The values so far and those of the columns to come are all.
use Rattle.std.proofs.Common.{◌≡◌, ◌++◌, map}
use Rattle.logic3.specs.Wave.{value_at}
use Rattle.serde_json.specs.View.{view}
use Rattle.timing_diagram.specs.WaveJson.{bus_value, bus_values}
use Rattle.timing_diagram.proofs.Joined.{from_on}
use Rattle.timing_diagram.proofs.wave_json.bus_values.Given as goal

abbrev pub invariant-loop-column : goal.invariant-loop-column
invariant-loop-column l =
    map view l.values.items ++ from_on (bus_value (map value_at l.bits) l.columns) l.column l.column-end ≡ bus_values (map value_at l.bits) l.columns
