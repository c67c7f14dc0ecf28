-- The first of the latest pins so far.
use Rattle.std.proofs.Common.{ℕ, ◌<◌, ◌≤◌, length}
use Rattle.circuit_info.proofs.PathNets.{sees}
use Rattle.circuit_info.proofs.path_nets.latest.Given as goal

abbrev pub invariant-loop-place : goal.invariant-loop-place
invariant-loop-place l = record {
  before : l.latest < l.place;
  within : l.latest < length l.pins;
  greatest : (other : ℕ) → other < l.place → other < length l.pins → sees l.ticks l.pins l.wires other ≤ sees l.ticks l.pins l.wires l.latest;
  first : (earlier : ℕ) → earlier < l.latest → sees l.ticks l.pins l.wires earlier < sees l.ticks l.pins l.wires l.latest;
}
