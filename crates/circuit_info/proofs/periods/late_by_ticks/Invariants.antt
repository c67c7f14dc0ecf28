-- The late flip-flops so far.
use Rattle.std.proofs.Common.{◌≡◌, filter}
use Rattle.std.specs.List.{range_with_len}
use Rattle.circuit_info.specs.Periods.{is_late}
use Rattle.circuit_info.proofs.periods.late_by_ticks.Given as goal

abbrev pub invariant-loop-net : goal.invariant-loop-net
invariant-loop-net l = l.flops.items ≡ filter (is_late l.design) (range_with_len 0 l.net)
