-- A range is at the end of what is left exactly if it is at the end of the name.
use Rattle.std.proofs.Common.{◌≡◌, length}
use Rattle.plain_runs.specs.Likenesses.{ends_with_range}
use Rattle.plain_runs.proofs.likeness.ends_with_range.Given as goal

abbrev pub invariant-loop-after : goal.invariant-loop-after
invariant-loop-after l = ends_with_range l.rest ≡ ends_with_range l.name

abbrev pub decreases-loop-after : goal.decreases-loop-after
decreases-loop-after l = length l.rest
