-- The names of the nets so far are after those that were there.
use Rattle.std.proofs.Common.{◌≡◌, ◌++◌, take}
use Rattle.netlist.specs.Names.{seen_names}
use Rattle.kernel_runs.specs.Diffs.{names_at}
use Rattle.kernel_runs.proofs.diff_names.push_names.Given as goal

abbrev pub invariant-loop-net : goal.invariant-loop-net
invariant-loop-net l = seen_names l.names.items ≡ seen_names l.initial.names.items ++ names_at l.netlist (take l.net-index l.nets)
