use Rattle.cmb_kernel.proofs.Running.{circuit_ok}
use Rattle.cmb_kernel.proofs.kernel.Kernel.check_running.Goals as goal

pub returns-clause-circuit : goal.returns-clause-circuit
returns-clause-circuit g c = let all = c.self.invariant c.if-self.false in rw (← c.self.view_is) (circuit_ok all)
