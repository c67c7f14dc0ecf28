-- The names of the nets so far that the first doesn't have are after those that were there.
use Rattle.std.proofs.Common.{◌≡◌, ◌++◌, filter, is_some, map, not}
use Rattle.std.specs.List.{range_with_len}
use Rattle.netlist.specs.Names.{seen_names}
use Rattle.netlist.specs.Netlist.{name_at, net_named}
use Rattle.kernel_runs.proofs.diff_names.push_new_nets.Given as goal

abbrev pub invariant-loop-net : goal.invariant-loop-net
invariant-loop-net l =
    seen_names l.names.items ≡ seen_names l.initial.names.items
    ++ filter (λ name. not (is_some (net_named l.first name))) (map (name_at l.netlist) (range_with_len 0 l.net))
