use Rattle.std.proofs.Common.{◌≡◌, ◌++◌, drop}
use Rattle.circuit_info.specs.Text.{unobserved_lines}
use Rattle.circuit_info.proofs.text.push_unobserved.Given as goal

-- the lines so far and those left are all
abbrev pub invariant-loop-net : goal.invariant-loop-net
invariant-loop-net l = l.text.items ++ unobserved_lines l.netlist (drop l.net-index l.nets) ≡ l.initial.text.items ++ unobserved_lines l.netlist l.nets
