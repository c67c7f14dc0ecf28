-- The text so far is the one before and the frontiers so far.
use Rattle.std.proofs.Common.{◌≡◌, ◌++◌, decimal, flat_map, take}
use Rattle.cmb_kernel.specs.State.{frontier_at}
use Rattle.event_trace.specs.Frontiers.{net_cell}
use Rattle.event_trace.proofs.frontier_cells.push_frontiers.Given as goal

abbrev pub invariant-loop-net : goal.invariant-loop-net
invariant-loop-net l =
    l.text.items ≡ l.initial.text.items
    ++ flat_map (net_cell l.kernel.circuit l.kernel.end (λ net. decimal (frontier_at l.kernel.state net))) (take l.net-index l.nets)
