use Rattle.std.proofs.Common.{◌≡◌, replicate}
use Rattle.gate_process.specs.Knowledge.{nothing_known}
use Rattle.gate_process.proofs.received.nothing_received.Given as goal

abbrev pub invariant-loop-pin : goal.invariant-loop-pin
invariant-loop-pin l = l.received.items ≡ replicate l._pin nothing_known
