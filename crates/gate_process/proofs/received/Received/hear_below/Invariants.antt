use Rattle.std.proofs.Common.{◌-◌, length}
use Rattle.gate_process.proofs.Hears.{Hears}
use Rattle.gate_process.proofs.received.Received.hear_below.Given as goal

abbrev pub invariant-loop-self : goal.invariant-loop-self
invariant-loop-self l = Hears l.tick l.messages l.fn.self l.count l.self

abbrev pub decreases-loop-self : goal.decreases-loop-self
decreases-loop-self l = length l.messages - l.count
