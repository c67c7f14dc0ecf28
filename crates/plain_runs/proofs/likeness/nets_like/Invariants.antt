-- The nets so far whose names look so.
use Rattle.std.proofs.Common.{◌≡◌, filter}
use Rattle.std.specs.List.{range_with_len}
use Rattle.plain_runs.specs.Likenesses.{has_likeness}
use Rattle.plain_runs.proofs.likeness.nets_like.Given as goal

abbrev pub invariant-loop-net : goal.invariant-loop-net
invariant-loop-net l = l.nets.items ≡ filter (has_likeness l.netlist l.likeness) (range_with_len 0 l.net)
