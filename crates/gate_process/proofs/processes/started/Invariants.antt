use Rattle.std.proofs.Common.{◌≡◌, ◌+◌, map, take}
use Rattle.gate_process.specs.Outputs.{started_output}
use Rattle.gate_process.proofs.processes.started.Given as goal

abbrev pub invariant-loop-net : goal.invariant-loop-net
invariant-loop-net g l = l.outputs.items ≡ map (started_output (l.fn.horizon + 1)) (take l.net l.design.circuit)
