-- The rows so far and those to come are all.
use Rattle.std.proofs.Common.{◌≡◌, ◌++◌, drop, flat_map}
use Rattle.std.specs.List.{enumerate_from}
use Rattle.vcd_dump.specs.Traces.{traces}
use Rattle.timing_diagram.specs.Picture.{trace_row}
use Rattle.timing_diagram.proofs.picture.push_rows.Given as goal

abbrev pub invariant-loop-place : goal.invariant-loop-place
invariant-loop-place l =
    l.text.items ++ flat_map (trace_row l.left l.columns) (enumerate_from l.place (traces l.design.circuit (drop l.place l.shown) (drop l.place l.waves)))
    ≡ l.fn.text.items ++ flat_map (trace_row l.left l.columns) (enumerate_from 0 (traces l.design.circuit l.shown l.waves))
