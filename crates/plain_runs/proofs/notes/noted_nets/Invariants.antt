-- The nets so far that are noted.
use Rattle.std.proofs.Common.{◌≡◌, filter}
use Rattle.std.specs.List.{range_with_len}
use Rattle.plain_runs.specs.Remarks.{is_noted}
use Rattle.plain_runs.proofs.notes.noted_nets.Given as goal

abbrev pub invariant-loop-net : goal.invariant-loop-net
invariant-loop-net l = l.nets.items ≡ filter (is_noted l.remark l.horizon l.design.circuit) (range_with_len 0 l.net)
