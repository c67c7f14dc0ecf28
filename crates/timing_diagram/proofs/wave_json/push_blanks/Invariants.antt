-- The texts so far.
use Rattle.std.proofs.Common.{◌≡◌, ◌++◌, [], map, replicate}
use Rattle.serde_json.specs.View.{view}
use Rattle.timing_diagram.specs.WaveJson.{text_data}
use Rattle.timing_diagram.proofs.wave_json.push_blanks.Given as goal

abbrev pub invariant-loop-blank : goal.invariant-loop-blank
invariant-loop-blank l = map view l.labels.items ≡ map view l.fn.labels.items ++ replicate l._blank (text_data [])
