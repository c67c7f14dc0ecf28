-- The nets so far that are unused inputs.
use Rattle.std.proofs.Common.{◌≡◌, filter}
use Rattle.std.specs.List.{range_with_len}
use Rattle.plain_runs.specs.Unused.{is_unused_input}
use Rattle.plain_runs.proofs.unused.unused_inputs.Given as goal

abbrev pub invariant-loop-net : goal.invariant-loop-net
invariant-loop-net l = l.nets.items ≡ filter (is_unused_input l.netlist) (range_with_len 0 l.net)
