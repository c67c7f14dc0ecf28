-- The columns so far and those to come are all.
use Rattle.std.proofs.Common.{◌≡◌, ◌++◌, map}
use Rattle.logic3.specs.Wave.{value_at}
use Rattle.timing_diagram.specs.Picture.{bus_path, value_path}
use Rattle.timing_diagram.proofs.Joined.{from_on}
use Rattle.timing_diagram.proofs.bus_picture.push_values.Given as goal

abbrev pub invariant-loop-column : goal.invariant-loop-column
invariant-loop-column l =
    l.text.items ++ from_on (value_path (map value_at l.bits) l.columns) l.column l.column-end
    ≡ l.fn.text.items ++ bus_path (map value_at l.bits) l.columns
