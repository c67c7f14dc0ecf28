-- The lines so far and those to come are all.
use Rattle.std.proofs.Common.{◌≡◌, ◌++◌, drop, flat_map, map}
use Rattle.timing_diagram.specs.Bus.{seen_bus}
use Rattle.timing_diagram.specs.Drawing.{bus_line}
use Rattle.timing_diagram.proofs.bus_text.push_bus_lines.Given as goal

abbrev pub invariant-loop-bus : goal.invariant-loop-bus
invariant-loop-bus l =
    l.text.items ++ flat_map (bus_line l.width l.columns) (drop l.bus-index (map seen_bus l.buses))
    ≡ l.fn.text.items ++ flat_map (bus_line l.width l.columns) (map seen_bus l.buses)
