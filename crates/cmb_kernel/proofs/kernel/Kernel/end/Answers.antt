use Rattle.std.proofs.Common.{arith}
use Rattle.cmb_kernel.proofs.kernel.Kernel.end.Goals as goal

pub returns-clause-most : goal.returns-clause-most
returns-clause-most g c =
    rw (← c.self.view_is) (λ running. let within = (c.self.invariant running).within in omega (arith, within))
