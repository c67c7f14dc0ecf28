use Rattle.std.proofs.Common.{◌∙◌}
use Rattle.cmb_kernel.proofs.Running.{process_below, runs_at, frontier_is, frontier_in_time}
use Rattle.cmb_kernel.proofs.kernel.Kernel.frontier.Goals as goal

pub of_net-requires : goal.of_net-requires
of_net-requires g c =
    let all = c.self.invariant (rw (← c.self.view_is) at c.requires.running) in
    process_below all c.args.net (rw (← c.self.view_is) at c.requires.net)

pub frontier-requires : goal.frontier-requires
frontier-requires g c =
    let all = c.self.invariant (rw (← c.self.view_is) at c.requires.running) in
    record { running = (runs_at all c.args.net c.of_net.result c.of_net.ensures).runs }

pub returns-clause-frontier : goal.returns-clause-frontier
returns-clause-frontier g c =
    let all = c.self.invariant (rw (← c.self.view_is) at c.requires.running) in
    rw (← c.self.view_is)
    (c.frontier.ensures ∙ frontier_is all c.args.net c.of_net.result c.of_net.ensures)

pub returns-clause-within : goal.returns-clause-within
returns-clause-within g c =
    let all = c.self.invariant (rw (← c.self.view_is) at c.requires.running) in
    rw (← c.self.view_is)
    (frontier_in_time all c.args.net c.of_net.result c.frontier.result c.of_net.ensures c.frontier.ensures)
