use Rattle.std.proofs.Common.{◌≡◌, ◌++◌, ◌==◌}
use Rattle.std.specs.List.{filter, range_with_len}
use Rattle.design.specs.Flow.{rank, rank_at}
use Rattle.design.proofs.order.list_nets.Given as goal

abbrev pub invariant-loop-net : goal.invariant-loop-net
invariant-loop-net l =
    l.list.items ≡ l.initial.list.items ++ filter (λ net. rank_at l.design.circuit net == rank l.part) (range_with_len 0 l.net)
