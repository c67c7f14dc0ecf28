use Rattle.std.proofs.Common.{◌≡◌}
use Rattle.design.specs.Equations.{signals_in}
use Rattle.causes.specs.Swings.{swing_start}
use Rattle.causes.proofs.swings.swing_start.Given as goal

-- what is left to go back gives the same
abbrev pub invariant-loop-start : goal.invariant-loop-start
invariant-loop-start l =
    swing_start (signals_in l.waves l.net) l.period l.start ≡ swing_start (signals_in l.waves l.net) l.period l.fn.tick

abbrev pub decreases-loop-start : goal.decreases-loop-start
decreases-loop-start l = l.start
