use Rattle.std.proofs.Common.{ℕ, ◌<◌}
use Rattle.circuit_info.specs.Loops.{HasLevel}
use Rattle.circuit_info.proofs.loops.least_without.Given as goal

abbrev pub invariant-loop-net : goal.invariant-loop-net
invariant-loop-net l = (earlier : ℕ) → earlier < l.net → HasLevel l.netlist earlier
