-- The lines so far and those to come are all.
use Rattle.std.proofs.Common.{◌≡◌, ◌++◌}
use Rattle.timing_diagram.specs.Picture.{grid, grid_line}
use Rattle.timing_diagram.proofs.Joined.{from_on}
use Rattle.timing_diagram.proofs.picture.push_grid.Given as goal

abbrev pub invariant-loop-place : goal.invariant-loop-place
invariant-loop-place l =
    l.text.items ++ from_on (grid_line l.left l.height l.columns) l.place l.place-end ≡ l.fn.text.items ++ grid l.left l.height l.columns
