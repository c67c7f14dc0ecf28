-- The gates before the one at hand have the ticks of their longest paths.
use Rattle.circuit_info.proofs.Longest.{IsPassedOver}
use Rattle.circuit_info.proofs.paths.longest_by_levels.Given as goal

abbrev pub invariant-loop-gate : goal.invariant-loop-gate
invariant-loop-gate l = IsPassedOver l.design l.gate-items l.gate-index l.ticks.items
