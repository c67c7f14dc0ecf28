use Rattle.std.proofs.Common.{◌≡◌, map, take}
use Rattle.netlist.specs.declared.netlist.Net.{Net}
use Rattle.netlist.proofs.netlist.drivers_of.Given as goal

abbrev pub invariant-loop-net : goal.invariant-loop-net
invariant-loop-net l = l.drivers.items ≡ map (λ (net : Net). net.part) (take l.net-index l.nets)
