use Rattle.std.proofs.Common.{take}
use Rattle.netlist.specs.Names.{seen_names}
use Rattle.fanin_cone.proofs.KnownNames.{HaveNumbers}
use Rattle.fanin_cone.proofs.extraction.net_numbers.Given as goal

abbrev pub invariant-loop-at : goal.invariant-loop-at
invariant-loop-at l = HaveNumbers l.netlist (take l.at (seen_names l.names)) l.numbers.items
