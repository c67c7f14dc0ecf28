-- The values so far and those to come are all.
use Rattle.std.proofs.Common.{◌≡◌, ◌+◌, ◌≤◌, drop, map, min}
use Rattle.std.specs.List.{sum_by}
use Rattle.timing_diagram.specs.Bus.{BusTrace, seen_bus}
use Rattle.timing_diagram.specs.WavesPage.{most_values, value_count}
use Rattle.timing_diagram.proofs.waves_page.counted_buses.Given as goal

abbrev pub invariant-loop-bus : goal.invariant-loop-bus
invariant-loop-bus l =
    (l.count ≤ most_values + 1)
    × (min (most_values + 1) (l.count + sum_by (λ (bus : BusTrace). value_count l.columns bus.1) (drop l.bus-index (map seen_bus l.buses)))
    ≡ min (most_values + 1) (l.before + sum_by (λ (bus : BusTrace). value_count l.columns bus.1) (map seen_bus l.buses)))
