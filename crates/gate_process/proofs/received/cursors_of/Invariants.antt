use Rattle.std.proofs.Common.{◌≡◌, map, take}
use Rattle.gate_process.specs.Knowledge.{seen_pins, as_known}
use Rattle.gate_process.proofs.received.cursors_of.Given as goal

abbrev pub invariant-loop-place : goal.invariant-loop-place
invariant-loop-place l = l.cursors.items ≡ map as_known (take l.place (seen_pins l.wires l.received))
