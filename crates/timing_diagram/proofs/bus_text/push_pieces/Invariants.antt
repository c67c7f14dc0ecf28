-- The columns so far and those to come are all.
use Rattle.std.proofs.Common.{◌≡◌, ◌++◌, map}
use Rattle.logic3.specs.Wave.{value_at}
use Rattle.timing_diagram.specs.Drawing.{bus_piece, bus_text}
use Rattle.timing_diagram.proofs.Joined.{from_on}
use Rattle.timing_diagram.proofs.bus_text.push_pieces.Given as goal

abbrev pub invariant-loop-column : goal.invariant-loop-column
invariant-loop-column l =
    l.text.items ++ from_on (bus_piece (map value_at l.bits) l.columns) l.column l.column-end
    ≡ l.fn.text.items ++ bus_text (map value_at l.bits) l.columns
