use Rattle.std.proofs.Common.{◌-◌, length}
use Rattle.circuit_info.specs.Known.{KnownBefore}
use Rattle.circuit_info.proofs.known.first_unknown.Given as goal

abbrev pub invariant-loop-place : goal.invariant-loop-place
invariant-loop-place l = KnownBefore l.netlist l.levels l.pins l.place

abbrev pub decreases-loop-place : goal.decreases-loop-place
decreases-loop-place l = length l.pins - l.place
