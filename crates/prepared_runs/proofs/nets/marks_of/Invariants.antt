-- The nets so far are marked, and no other.
use Rattle.std.proofs.Common.{◌≡◌, ℕ, false, take, length, get_or}
use Rattle.prepared_runs.specs.Marked.{is_among}
use Rattle.prepared_runs.proofs.nets.marks_of.Given as goal

abbrev pub invariant-loop-net : goal.invariant-loop-net
invariant-loop-net l = record {
  size : length l.marks.items ≡ l.nets;
  marks : (net : ℕ) → get_or l.marks.items net false ≡ is_among (take l.net-index l.among) net;
}
