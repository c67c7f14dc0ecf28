use Rattle.std.proofs.Common.{◌≡◌}
use Rattle.design.specs.Equations.{waves_of}
use Rattle.design.proofs.plain.plain_waves.Given as goal

abbrev pub invariant-loop-tick : goal.invariant-loop-tick
invariant-loop-tick l = l.waves.items ≡ waves_of l.design.circuit l.tick
