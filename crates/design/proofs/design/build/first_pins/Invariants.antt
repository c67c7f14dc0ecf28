use Rattle.std.proofs.Common.{◌≡◌, take, get_or}
use Rattle.design.specs.Joined.{first_pins_of}
use Rattle.design.proofs.design.build.first_pins.Given as goal

abbrev pub invariant-loop-net : goal.invariant-loop-net
invariant-loop-net l = record {
  so_far : l.starts.items ≡ take l.net (first_pins_of l.netlist);
  next : l.pin ≡ get_or (first_pins_of l.netlist) l.net 0;
}
