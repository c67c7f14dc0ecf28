use Rattle.std.proofs.Common.{◌≡◌, ◌++◌, drop}
use Rattle.netlist.specs.Text.{names_behind}
use Rattle.netlist.proofs.text.push_names.Given as goal

-- the names so far and those left are all
abbrev pub invariant-loop-net : goal.invariant-loop-net
invariant-loop-net l = l.text.items ++ names_behind l.netlist (drop l.net-index l.nets) ≡ l.initial.text.items ++ names_behind l.netlist l.nets
