use Rattle.std.proofs.Common.{◌≡◌}
use Rattle.std.specs.List.{range_with_len}
use Rattle.design.specs.Pins.{first_pin}
use Rattle.cmb_kernel.specs.Sweeps.{all_caught_up}
use Rattle.cmb_kernel.proofs.kernel.at_once.Kernel+Logs+W.sweep_net_at_once.Given as goal

abbrev pub invariant-loop-place : goal.invariant-loop-place
invariant-loop-place g l =
    l.self ≡ record l.fn.self {
      state = all_caught_up l.tick l.fn.self.state (range_with_len (first_pin l.fn.self.circuit l.net) l.place);
    }
