use Rattle.cmb_kernel.proofs.Running.{circuit_ok}
use Rattle.cmb_kernel.proofs.kernel.Kernel.is_failed.Goals as goal

pub returns-clause-circuit : goal.returns-clause-circuit
returns-clause-circuit g c = rw (← c.self.view_is) (λ running. circuit_ok (c.self.invariant running))
