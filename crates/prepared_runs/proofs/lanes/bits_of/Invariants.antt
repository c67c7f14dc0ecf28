-- The nets so far, and those of the buses to come, are all.
use Rattle.std.proofs.Common.{◌≡◌, ◌++◌, drop, map}
use Rattle.prepared_runs.specs.Lanes.{bits_of, bus_view}
use Rattle.prepared_runs.proofs.lanes.bits_of.Given as goal

abbrev pub invariant-loop-bus : goal.invariant-loop-bus
invariant-loop-bus l = l.bits.items ++ bits_of (drop l.bus-index (map bus_view l.buses)) ≡ bits_of (map bus_view l.buses)
