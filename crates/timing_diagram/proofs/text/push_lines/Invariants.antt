-- The lines so far and those to come are all.
use Rattle.std.proofs.Common.{◌≡◌, ◌++◌, drop, flat_map}
use Rattle.vcd_dump.specs.Traces.{traces}
use Rattle.timing_diagram.specs.Drawing.{line_text}
use Rattle.timing_diagram.proofs.text.push_lines.Given as goal

abbrev pub invariant-loop-place : goal.invariant-loop-place
invariant-loop-place l =
    l.text.items ++ flat_map (line_text l.width l.columns) (traces l.design.circuit (drop l.place l.shown) (drop l.place l.waves))
    ≡ l.fn.text.items ++ flat_map (line_text l.width l.columns) (traces l.design.circuit l.shown l.waves)
