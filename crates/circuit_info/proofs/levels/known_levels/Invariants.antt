use Rattle.std.proofs.Common.{take}
use Rattle.circuit_info.proofs.OnePass.{IsPassed}
use Rattle.circuit_info.proofs.levels.known_levels.Given as goal

-- the gates before the one at hand have their levels, or none
abbrev pub invariant-loop-gate : goal.invariant-loop-gate
invariant-loop-gate l = IsPassed l.netlist (take l.gate-index l.gate-items) l.levels.items
