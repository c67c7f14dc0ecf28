use Rattle.cmb_kernel.proofs.Running.{process_below, runs_at, place_there, received_by_place}
use Rattle.cmb_kernel.proofs.kernel.Kernel.received_there.Goals as goal

pub of_net-requires : goal.of_net-requires
of_net-requires g c =
    let all = c.self.invariant (rw (← c.self.view_is) at c.requires.running) in
    process_below all c.args.net (rw (← c.self.view_is) at c.requires.net)

pub received-requires-clause-running : goal.received-requires-clause-running
received-requires-clause-running g c =
    let all = c.self.invariant (rw (← c.self.view_is) at c.requires.running) in
    (runs_at all c.args.net c.of_net.result c.of_net.ensures).runs

pub received-requires-clause-place : goal.received-requires-clause-place
received-requires-clause-place g c =
    let all = c.self.invariant (rw (← c.self.view_is) at c.requires.running) in
    place_there all c.args.net c.args.place c.of_net.result c.of_net.ensures
    (rw (← c.self.view_is) at c.requires.place)

pub returns : goal.returns
returns g c =
    let all = c.self.invariant (rw (← c.self.view_is) at c.requires.running) in
    rw (← c.self.view_is)
    (received_by_place all c.args.net c.args.place c.received.result c.of_net.result c.of_net.ensures c.received.ensures)
