-- The lanes so far and those to come are all.
use Rattle.std.proofs.Common.{◌≡◌, ◌++◌, drop, map}
use Rattle.serde_json.specs.View.{view}
use Rattle.logic3.specs.Wave.{value_at}
use Rattle.timing_diagram.specs.WavesPage.{bit_lane}
use Rattle.timing_diagram.proofs.page_data.bit_lanes.Given as goal

abbrev pub invariant-loop-bit : goal.invariant-loop-bit
invariant-loop-bit l =
    map view l.lanes.items ++ map (bit_lane l.columns) (drop l.bit-index (map value_at l.bits))
    ≡ map (bit_lane l.columns) (map value_at l.bits)
