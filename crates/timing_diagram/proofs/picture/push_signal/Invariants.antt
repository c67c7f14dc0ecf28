-- The columns so far and those to come are all.
use Rattle.std.proofs.Common.{◌≡◌, ◌++◌}
use Rattle.logic3.specs.Wave.{value_at}
use Rattle.timing_diagram.specs.Picture.{signal_path, column_path}
use Rattle.timing_diagram.proofs.Joined.{from_on}
use Rattle.timing_diagram.proofs.picture.push_signal.Given as goal

abbrev pub invariant-loop-column : goal.invariant-loop-column
invariant-loop-column l =
    l.text.items ++ from_on (column_path (value_at l.wave) l.columns) l.column l.column-end ≡ l.fn.text.items ++ signal_path (value_at l.wave) l.columns
