-- The text so far is the one before and the names so far.
use Rattle.std.proofs.Common.{◌≡◌, ◌++◌, flat_map, take}
use Rattle.vcd_dump.specs.Traces.{name_of}
use Rattle.event_trace.specs.Frontiers.{net_cell}
use Rattle.event_trace.proofs.frontier_cells.push_names.Given as goal

abbrev pub invariant-loop-net : goal.invariant-loop-net
invariant-loop-net l =
    l.text.items ≡ l.initial.text.items ++ flat_map (net_cell l.design.circuit l.end (name_of l.design.circuit)) (take l.net-index l.nets)
