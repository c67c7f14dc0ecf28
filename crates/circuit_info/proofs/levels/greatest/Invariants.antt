use Rattle.std.proofs.Common.{◌≡◌, take}
use Rattle.circuit_info.specs.Levels.{greatest}
use Rattle.circuit_info.proofs.levels.greatest.Given as goal

abbrev pub invariant-loop-number : goal.invariant-loop-number
invariant-loop-number l = l.top ≡ greatest (take l.number-index l.numbers)
