-- The flip-flops so far.
use Rattle.std.proofs.Common.{◌≡◌, filter}
use Rattle.std.specs.List.{range_with_len}
use Rattle.circuit_info.specs.PathText.{is_flop_at}
use Rattle.circuit_info.proofs.path_lines.flops.Given as goal

abbrev pub invariant-loop-net : goal.invariant-loop-net
invariant-loop-net l = l.flops.items ≡ filter (is_flop_at l.netlist) (range_with_len 0 l.net)
