use Rattle.std.proofs.Common.{◌≢◌, ℕ, ◌-◌, ◌<◌, length, slice_index_or}
use Rattle.circuit_info.proofs.loops.place_of.Given as goal

abbrev pub invariant-loop-place : goal.invariant-loop-place
invariant-loop-place l = (earlier : ℕ) → earlier < l.place → slice_index_or l.way earlier 0 ≢ l.net

abbrev pub decreases-loop-place : goal.decreases-loop-place
decreases-loop-place l = length l.way - l.place
