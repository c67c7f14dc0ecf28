-- What the pins so far see last.
use Rattle.std.proofs.Common.{◌≡◌, ◌+◌, ◌*◌, ◌≤◌, slice_index_or, take}
use Rattle.netlist.specs.Netlist.{most_nets}
use Rattle.circuit_info.specs.Paths.{last_seen}
use Rattle.circuit_info.proofs.paths.last_seen.Given as goal

abbrev pub invariant-loop-place : goal.invariant-loop-place
invariant-loop-place l = record {
  last : l.last ≡ last_seen (λ net. slice_index_or l.ticks net 0) (take l.place l.pins) (take l.place l.wires);
  few : l.last ≤ 2_000_000 * (most_nets + 1) + 1_000_000;
}
