use Rattle.std.proofs.Common.{ℕ, ◌<◌, ◌≤◌, slice_index_or}
use Rattle.circuit_info.proofs.counts.first_greatest.Given as goal

abbrev pub invariant-loop-place : goal.invariant-loop-place
invariant-loop-place l = record {
  before : l.greatest < l.place;
  greatest : (other : ℕ) → other < l.place → slice_index_or l.numbers other 0 ≤ slice_index_or l.numbers l.greatest 0;
  first : (earlier : ℕ) → earlier < l.greatest → slice_index_or l.numbers earlier 0 < slice_index_or l.numbers l.greatest 0;
}
