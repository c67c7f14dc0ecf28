-- The names of the nets so far are after those that were there.
use Rattle.std.proofs.Common.{◌≡◌, ◌++◌, map}
use Rattle.std.specs.List.{range_with_len}
use Rattle.netlist.specs.Names.{seen_names}
use Rattle.netlist.specs.Netlist.{name_at}
use Rattle.kernel_runs.proofs.diff_names.push_nets.Given as goal

abbrev pub invariant-loop-net : goal.invariant-loop-net
invariant-loop-net l = seen_names l.names.items ≡ seen_names l.initial.names.items ++ map (name_at l.netlist) (range_with_len 0 l.net)
