-- The ticks to the ends so far.
use Rattle.std.proofs.Common.{◌≡◌, map, take}
use Rattle.circuit_info.specs.PathText.{ticks_to}
use Rattle.circuit_info.proofs.path_lines.all_ticks.Given as goal

abbrev pub invariant-loop-net : goal.invariant-loop-net
invariant-loop-net l = l.all.items ≡ map (ticks_to l.design l.end) (take l.net-index l.nets)
