use Rattle.std.proofs.Common.{◌≡◌, ◌+◌, ◌++◌, take, drop}
use Rattle.design.specs.Equations.{waves_of}
use Rattle.design.proofs.plain.advance.Given as goal

abbrev pub invariant-loop-net : goal.invariant-loop-net
invariant-loop-net l = l.waves ≡ take l.net (waves_of l.design.circuit (l.tick + 1)) ++ drop l.net (waves_of l.design.circuit l.tick)
