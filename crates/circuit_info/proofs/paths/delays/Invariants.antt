-- The delays of the nets so far.
use Rattle.std.proofs.Common.{◌≡◌, map}
use Rattle.std.specs.List.{range_with_len}
use Rattle.circuit_info.specs.Paths.{delay_at}
use Rattle.circuit_info.proofs.paths.delays.Given as goal

abbrev pub invariant-loop-net : goal.invariant-loop-net
invariant-loop-net l = l.delays.items ≡ map (delay_at l.design) (range_with_len 0 l.net)
