-- What is left of the names differs by one edit exactly if the names do.
use Rattle.std.proofs.Common.{◌≡◌, length}
use Rattle.mistakes.specs.Near.{is_one_edit}
use Rattle.mistakes.proofs.near.after_same.Given as goal

abbrev pub invariant-loop-one : goal.invariant-loop-one
invariant-loop-one l = is_one_edit l.one l.other ≡ is_one_edit l.one-2 l.other-2

abbrev pub decreases-loop-one : goal.decreases-loop-one
decreases-loop-one l = length l.one
