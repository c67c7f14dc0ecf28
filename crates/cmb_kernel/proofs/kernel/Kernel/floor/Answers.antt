use Rattle.std.proofs.Common.{◌∙◌}
use Rattle.cmb_kernel.proofs.Running.{process_below, runs_at, floor_is, floor_in_time}
use Rattle.cmb_kernel.proofs.kernel.Kernel.floor.Goals as goal

pub of_net-requires : goal.of_net-requires
of_net-requires g c =
    let all = c.self.invariant (rw (← c.self.view_is) at c.requires.running) in
    process_below all c.args.net (rw (← c.self.view_is) at c.requires.net)

pub floor-requires : goal.floor-requires
floor-requires g c =
    let all = c.self.invariant (rw (← c.self.view_is) at c.requires.running) in
    record { running = (runs_at all c.args.net c.of_net.result c.of_net.ensures).runs }

pub returns-clause-floor : goal.returns-clause-floor
returns-clause-floor g c =
    let all = c.self.invariant (rw (← c.self.view_is) at c.requires.running) in
    rw (← c.self.view_is)
    (c.floor.ensures ∙ floor_is all c.args.net c.of_net.result c.of_net.ensures)

pub returns-clause-known : goal.returns-clause-known
returns-clause-known g c =
    let all = c.self.invariant (rw (← c.self.view_is) at c.requires.running) in
    rw (← c.self.view_is)
    (floor_in_time all c.args.net c.of_net.result c.floor.result c.of_net.ensures c.floor.ensures)
