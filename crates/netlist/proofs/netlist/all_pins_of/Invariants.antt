use Rattle.std.proofs.Common.{◌≡◌, map, take}
use Rattle.netlist.specs.declared.netlist.Net.{Net}
use Rattle.netlist.proofs.netlist.all_pins_of.Given as goal

abbrev pub invariant-loop-net : goal.invariant-loop-net
invariant-loop-net l = l.pins ≡ map (λ (net : Net). net.pins.items) (take l.net-index l.nets)
