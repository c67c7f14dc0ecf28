use Rattle.std.proofs.Common.{◌≡◌, take}
use Rattle.cmb_kernel.specs.Sweeps.{swept}
use Rattle.cmb_kernel.specs.Sound.{IsSound}
use Rattle.cmb_kernel.proofs.kernel.at_once.Kernel+Logs+W.sweep_at_once.Given as goal

abbrev pub invariant-loop-net : goal.invariant-loop-net
invariant-loop-net g l = record {
  run : l.self ≡ record l.fn.self { state = swept l.tick (take l.net-index l.order) l.fn.self.state };
  sound : IsSound l.self.circuit l.self.end l.self.state;
}
