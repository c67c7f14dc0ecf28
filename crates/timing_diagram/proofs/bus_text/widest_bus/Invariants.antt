-- The longest name so far or to come is the longest.
use Rattle.std.proofs.Common.{◌≡◌, drop, map, max}
use Rattle.timing_diagram.specs.Bus.{seen_bus}
use Rattle.timing_diagram.specs.Picture.{widest}
use Rattle.timing_diagram.proofs.bus_text.widest_bus.Given as goal

abbrev pub invariant-loop-bus : goal.invariant-loop-bus
invariant-loop-bus l = max l.width (widest (drop l.bus-index (map seen_bus l.buses))) ≡ widest (map seen_bus l.buses)
