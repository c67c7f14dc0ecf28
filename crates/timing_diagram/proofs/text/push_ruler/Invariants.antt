-- The labels so far and those to come are all.
use Rattle.std.proofs.Common.{◌≡◌, ◌++◌, flat_map, replicate, codes}
use Rattle.std.specs.List.{range_with_len}
use Rattle.timing_diagram.specs.Drawing.{ruler_label}
use Rattle.timing_diagram.specs.Ruler.{label_column, label_count}
use Rattle.timing_diagram.proofs.Joined.{from_on}
use Rattle.timing_diagram.proofs.text.push_ruler.Given as goal

abbrev pub invariant-loop-place : goal.invariant-loop-place
invariant-loop-place l =
    l.text.items ++ from_on (ruler_label l.columns) l.place l.place-end
    ≡ l.fn.text.items ++ replicate l.width 32 ++ codes "  " ++ replicate (label_column l.columns 0) 46
    ++ flat_map (ruler_label l.columns) (range_with_len 0 (label_count l.columns))
