-- The values so far and those to come are all.
use Rattle.std.proofs.Common.{◌≡◌, ◌+◌, ◌≤◌, drop, map, min}
use Rattle.logic3.specs.Wave.{value_at}
use Rattle.timing_diagram.specs.WavesPage.{most_values, value_count}
use Rattle.timing_diagram.proofs.waves_page.counted.Given as goal

abbrev pub invariant-loop-wave : goal.invariant-loop-wave
invariant-loop-wave l =
    (l.count ≤ most_values + 1)
    × (min (most_values + 1) (l.count + value_count l.columns (drop l.wave-index (map value_at l.waves)))
    ≡ min (most_values + 1) (l.before + value_count l.columns (map value_at l.waves)))
