use Rattle.std.proofs.Common.{All, ◌≤◌, take}
use Rattle.gate_process.specs.Knowledge.{Knowledge}
use Rattle.gate_process.proofs.received.least_received.Given as goal

abbrev pub invariant-loop-pin : goal.invariant-loop-pin
invariant-loop-pin l = All (λ (known : Knowledge). l.least ≤ known.frontier) (take l.pin-index l.received)
