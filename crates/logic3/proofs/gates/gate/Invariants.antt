use Rattle.std.proofs.Common.{◌≡◌, take}
use Rattle.logic3.specs.Summary.{summary_of}
use Rattle.logic3.proofs.gates.gate.Given as goal

abbrev pub invariant-loop-pin : goal.invariant-loop-pin
invariant-loop-pin l = l.summary ≡ summary_of (take l.pin-index l.pins)
