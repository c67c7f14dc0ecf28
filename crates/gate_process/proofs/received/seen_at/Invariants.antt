use Rattle.std.proofs.Common.{◌≡◌, take}
use Rattle.logic3.specs.Summary.{summary_of}
use Rattle.design.specs.Equations.{values_at}
use Rattle.gate_process.specs.Knowledge.{seen_pins}
use Rattle.gate_process.specs.Step.{signals_of}
use Rattle.gate_process.proofs.received.seen_at.Given as goal

abbrev pub invariant-loop-place : goal.invariant-loop-place
invariant-loop-place l = l.pins ≡ summary_of (values_at l.tick (signals_of (take l.place (seen_pins l.wires l.received))))
