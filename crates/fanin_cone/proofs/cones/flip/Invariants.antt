use Rattle.std.proofs.Common.{◌≡◌, ◌++◌, not, map, take, drop}
use Rattle.fanin_cone.proofs.cones.flip.Given as goal

-- the marks so far are flipped, and then come those that are left
abbrev pub invariant-loop-mark : goal.invariant-loop-mark
invariant-loop-mark l = l.marks ≡ map not (take l.mark-index l.initial.marks) ++ drop l.mark-index l.initial.marks
