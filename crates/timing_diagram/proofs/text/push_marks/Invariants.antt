-- The columns so far and those to come are all.
use Rattle.std.proofs.Common.{◌≡◌, ◌++◌, ◌-◌, map}
use Rattle.std.specs.List.{range_with_len}
use Rattle.logic3.specs.Wave.{value_at}
use Rattle.timing_diagram.specs.Marks.{mark_at}
use Rattle.timing_diagram.specs.Drawing.{mark_byte, marks_text}
use Rattle.timing_diagram.proofs.text.push_marks.Given as goal

abbrev pub invariant-loop-column : goal.invariant-loop-column
invariant-loop-column l =
    l.text.items ++ map (λ column. mark_byte (mark_at (value_at l.wave) l.columns column)) (range_with_len l.column (l.column-end - l.column))
    ≡ l.fn.text.items ++ marks_text (value_at l.wave) l.columns
