use Rattle.std.proofs.Common.{◌≡◌, take}
use Rattle.causes.specs.Deciding.{greatest}
use Rattle.causes.proofs.deciding.greatest.Given as goal

abbrev pub invariant-loop-tick : goal.invariant-loop-tick
invariant-loop-tick l = l.top ≡ greatest (take l.tick-index l.ticks)
