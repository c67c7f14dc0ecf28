use Rattle.std.proofs.Common.{◌≡◌, take}
use Rattle.cmb_kernel.specs.Step.{steps}
use Rattle.cmb_kernel.specs.Sound.{IsSound}
use Rattle.cmb_kernel.proofs.kernel.Kernel.apply_all.Given as goal

abbrev pub invariant-loop-event : goal.invariant-loop-event
invariant-loop-event g l = record {
  run : l.self ≡ record l.fn.self { state = steps l.fn.self.state (take l.event-index l.events) };
  sound : IsSound l.self.circuit l.self.end l.self.state;
}
