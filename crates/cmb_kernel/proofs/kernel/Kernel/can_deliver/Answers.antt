use Rattle.std.proofs.Common.{nat_lt, [], length, slice_index_or, ap, subst, ◌∙◌}
use Rattle.design.specs.Circuit.{IsCircuit}
use Rattle.cmb_kernel.specs.State.{KernelView}
use Rattle.cmb_kernel.specs.Sound.{IsSound}
use Rattle.cmb_kernel.proofs.Running.{circuit_ok}
use Rattle.cmb_kernel.proofs.Single.{delivery_use}
use Rattle.cmb_kernel.proofs.kernel.Kernel.can_deliver.Goals as goal

pub returns : goal.returns
returns g c =
    let all = c.self.invariant (rw (← c.self.view_is) at c.requires.running) in
    let now = c.args.self.now in
    let ok = subst IsCircuit (ap (λ (k : KernelView). k.circuit) c.self.view_is) (circuit_ok all) in
    let sound = subst (λ (k : KernelView). IsSound k.circuit k.end k.state) c.self.view_is all.sound in
    ap (nat_lt 0) (c.waiting.ensures ∙ ap (λ (k : KernelView). length (slice_index_or k.state.lists c.args.pin [])) c.self.view_is)
    ∙ delivery_use now.circuit ok now.end now.state sound c.args.pin c.requires.exists
