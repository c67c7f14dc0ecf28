use Rattle.std.proofs.Common.{◌≡◌, take}
use Rattle.netlist.specs.Netlist.{all_pins}
use Rattle.netlist.proofs.netlist.Netlist.all_pins.Given as goal

abbrev pub invariant-loop-net : goal.invariant-loop-net
invariant-loop-net l = l.pins.items ≡ all_pins (take l.net l.self.nets)
