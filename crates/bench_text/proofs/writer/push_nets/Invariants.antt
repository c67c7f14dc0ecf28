use Rattle.std.proofs.Common.{◌≡◌, List, ◌≤◌, ◌++◌, length, map, drop}
use Rattle.texts.specs.Text.{longest_text}
use Rattle.netlist.specs.Netlist.{NetView}
use Rattle.bench_text.specs.Canonical.{canonical_lines, net_statement}
use Rattle.bench_text.proofs.writer.push_nets.Given as goal

-- the lines so far and those left are all, and the text isn't too long yet
abbrev pub invariant-loop-net : goal.invariant-loop-net
invariant-loop-net l =
    let rest = λ (nets : List NetView). canonical_lines (map (net_statement l.netlist) nets) in
    (l.text.items ++ rest (drop l.net l.netlist.nets) ≡ l.initial.text.items ++ rest l.netlist.nets) × (length l.text.items ≤ longest_text)
