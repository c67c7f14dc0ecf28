-- The columns so far and those to come are all.
use Rattle.std.proofs.Common.{◌≡◌, ◌++◌, map}
use Rattle.logic3.specs.Wave.{value_at}
use Rattle.timing_diagram.specs.Picture.{bus_labels, value_label}
use Rattle.timing_diagram.proofs.Joined.{from_on}
use Rattle.timing_diagram.proofs.bus_picture.push_labels.Given as goal

abbrev pub invariant-loop-column : goal.invariant-loop-column
invariant-loop-column l =
    l.text.items ++ from_on (value_label l.left l.place (map value_at l.bits) l.columns) l.column l.column-end
    ≡ l.fn.text.items ++ bus_labels l.left l.place (map value_at l.bits) l.columns
