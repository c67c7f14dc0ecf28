use Rattle.std.proofs.Common.{◌≡◌, ℕ, ◌<◌, [], slice_index_or}
use Rattle.cmb_kernel.proofs.kernel.Kernel.waiting_pin.Given as goal

abbrev pub invariant-loop-pin : goal.invariant-loop-pin
invariant-loop-pin g l = (pin : ℕ) → pin < l.pin → slice_index_or l.self.state.lists pin [] ≡ []
