-- The rows so far and those to come are all.
use Rattle.std.proofs.Common.{◌≡◌, ◌++◌, ◌+◌, drop, flat_map, map}
use Rattle.std.specs.List.{enumerate_from}
use Rattle.timing_diagram.specs.Bus.{seen_bus}
use Rattle.timing_diagram.specs.Picture.{bus_row}
use Rattle.timing_diagram.proofs.bus_picture.push_bus_rows.Given as goal

abbrev pub invariant-loop-place : goal.invariant-loop-place
invariant-loop-place l =
    l.text.items ++ flat_map (bus_row l.left l.columns) (enumerate_from (l.first + l.place) (drop l.place (map seen_bus l.buses)))
    ≡ l.fn.text.items ++ flat_map (bus_row l.left l.columns) (enumerate_from l.first (map seen_bus l.buses))
