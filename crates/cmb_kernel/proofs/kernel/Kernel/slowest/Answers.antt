use Rattle.std.proofs.Common.{length, ap, subst, arith}
use Rattle.cmb_kernel.specs.State.{KernelView}
use Rattle.cmb_kernel.specs.Sound.{IsSound}
use Rattle.cmb_kernel.proofs.Completion.{least_frontier_at}
use Rattle.cmb_kernel.proofs.kernel.Kernel.slowest.Goals as goal

pub returns-clause-least : goal.returns-clause-least
returns-clause-least g c =
    let all = c.self.invariant (rw (← c.self.view_is) at c.requires) in
    let same = ap (λ (kernel : KernelView). length kernel.circuit) c.self.view_is in
    least_frontier_at c.args.self.now.circuit c.args.self.now.end c.args.self.now.state
    (subst (λ (kernel : KernelView). IsSound kernel.circuit kernel.end kernel.state) c.self.view_is all.sound) c.loop-net.slowest c.loop-net.invariant.there
    (λ net below. c.loop-net.invariant.least net (omega (arith, same)))
