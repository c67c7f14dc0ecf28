use Rattle.std.proofs.Common.{◌≡◌, map, take}
use Rattle.netlist.specs.Netlist.{name_at}
use Rattle.netlist.proofs.netlist.Netlist.names_of.Given as goal

-- the names so far
abbrev pub invariant-loop-net : goal.invariant-loop-net
invariant-loop-net l = l.names ≡ map (name_at l.self) (take l.net-index l.nets)
