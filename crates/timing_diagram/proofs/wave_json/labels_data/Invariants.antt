-- The labels so far and those to come are all.
use Rattle.std.proofs.Common.{◌≡◌, ◌++◌, map}
use Rattle.serde_json.specs.View.{view}
use Rattle.timing_diagram.specs.WaveJson.{label_data, labels_data}
use Rattle.timing_diagram.proofs.Joined.{from_on}
use Rattle.timing_diagram.proofs.wave_json.labels_data.Given as goal

abbrev pub invariant-loop-place : goal.invariant-loop-place
invariant-loop-place l = map view l.labels.items ++ from_on (label_data l.columns) l.place l.place-end ≡ labels_data l.columns
