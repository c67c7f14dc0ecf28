use Rattle.std.proofs.Common.{◌≡◌, Some, slice_get, ap, subst, ◌∙◌}
use Rattle.design.specs.Circuit.{IsCircuit}
use Rattle.cmb_kernel.specs.State.{KernelView}
use Rattle.cmb_kernel.proofs.Running.{circuit_ok, process_below, runs_at}
use Rattle.cmb_kernel.proofs.Single.{advance_use}
use Rattle.cmb_kernel.proofs.kernel.Kernel.can_advance.Goals as goal

pub of_net-requires : goal.of_net-requires
of_net-requires g c =
    let all = c.self.invariant (rw (← c.self.view_is) at c.requires.running) in
    process_below all c.args.net (rw (← c.self.view_is) at c.requires.exists)

pub can_advance-requires : goal.can_advance-requires
can_advance-requires g c =
    let all = c.self.invariant (rw (← c.self.view_is) at c.requires.running) in
    record { running = (runs_at all c.args.net c.of_net.result c.of_net.ensures).runs }

pub returns : goal.returns
returns g c =
    let all = c.self.invariant (rw (← c.self.view_is) at c.requires.running) in
    let now = c.args.self.now in
    let ok = subst IsCircuit (ap (λ (k : KernelView). k.circuit) c.self.view_is) (circuit_ok all) in
    let at = subst (λ (k : KernelView). slice_get k.state.processes c.args.net ≡ Some c.of_net.result.state) c.self.view_is
    (runs_at all c.args.net c.of_net.result c.of_net.ensures).at in
    c.can_advance.ensures ∙ advance_use now.circuit ok now.end now.state c.args.net c.of_net.result.state at
