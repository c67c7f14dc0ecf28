-- The names of the nets so far that aren't names of the other nets are after those that were there.
use Rattle.std.proofs.Common.{◌≡◌, ◌++◌, filter, not, take}
use Rattle.netlist.specs.Names.{seen_names}
use Rattle.kernel_runs.specs.Diffs.{is_name_among, names_at}
use Rattle.kernel_runs.proofs.diff_names.push_others.Given as goal

abbrev pub invariant-loop-net : goal.invariant-loop-net
invariant-loop-net l =
    seen_names l.names.items ≡ seen_names l.initial.names.items
    ++ filter (λ name. not (is_name_among l.first l.nets name)) (names_at l.netlist (take l.net-index l.others))
