use Rattle.std.proofs.Common.{◌≡◌, ◌≤◌, map, take}
use Rattle.netlist.specs.Netlist.{most_nets}
use Rattle.circuit_info.specs.Levels.{greatest, level_at}
use Rattle.circuit_info.proofs.levels.level_above.Given as goal

abbrev pub invariant-loop-pin : goal.invariant-loop-pin
invariant-loop-pin l = record {
  top : l.top ≡ greatest (map (level_at l.levels) (take l.pin-index l.pins));
  few : l.top ≤ most_nets;
}
