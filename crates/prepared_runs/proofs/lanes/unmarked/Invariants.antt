-- Those so far that aren't marked.
use Rattle.std.proofs.Common.{◌≡◌, false, filter, get_or, not, take}
use Rattle.prepared_runs.proofs.lanes.unmarked.Given as goal

abbrev pub invariant-loop-net : goal.invariant-loop-net
invariant-loop-net l = l.unmarked.items ≡ filter (λ net. not (get_or l.marks net false)) (take l.net-index l.nets)
