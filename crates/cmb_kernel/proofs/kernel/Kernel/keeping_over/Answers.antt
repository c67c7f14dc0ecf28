use Rattle.std.proofs.Common.{◌+◌, Ok, ap, arith}
use Rattle.cmb_kernel.specs.State.{State, fresh}
use Rattle.cmb_kernel.proofs.Fresh.{state_started, fresh_runs}
use Rattle.cmb_kernel.proofs.kernel.Kernel.keeping_over.Goals as goal

pub invariant_of-result : goal.invariant_of-result
invariant_of-result g c =
    let limit = c.ticks.ensures.limit in
    rw c.ticks.ensures.ticks
    (λ _. fresh_runs c.args.design.now (c.args.horizon + 1) c.in_ok-processes.processes (g.F.Fabric.lists c.args.fabric)
    c.in_ok-processes.ensures.processes c.requires.lists _ _ c.in_ok-processes.ensures.well_formed (omega arith)
    c.requires.sources c.requires.nets)

pub returns : goal.returns
returns g c = rw c.ticks.ensures.ticks
    (λ _. ap (λ (s : State). Ok (record (fresh c.args.design.now.circuit (c.args.horizon + 1)) { state = s }))
    (state_started c.args.design.now (c.args.horizon + 1) c.in_ok-processes.processes (g.F.Fabric.lists c.args.fabric)
    c.in_ok-processes.ensures.processes c.requires.lists))
