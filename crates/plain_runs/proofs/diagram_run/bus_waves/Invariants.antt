-- The buses so far.
use Rattle.std.proofs.Common.{◌≡◌, map, take}
use Rattle.timing_diagram.specs.Bus.{seen_bus}
use Rattle.prepared_runs.specs.Lanes.{bus_view}
use Rattle.prepared_runs.specs.Shown.{wave_at}
use Rattle.plain_runs.specs.Drawn.{bus_trace}
use Rattle.plain_runs.proofs.diagram_run.bus_waves.Given as goal

abbrev pub invariant-loop-bus : goal.invariant-loop-bus
invariant-loop-bus l = map seen_bus l.drawn.items ≡ map (bus_trace (wave_at l.waves)) (take l.bus-index (map bus_view l.buses))
