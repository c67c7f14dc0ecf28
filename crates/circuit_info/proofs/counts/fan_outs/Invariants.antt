use Rattle.std.proofs.Common.{◌≡◌, ℕ, ◌<◌, length, take, slice_index_or}
use Rattle.netlist.specs.Repeats.{times}
use Rattle.circuit_info.proofs.counts.fan_outs.Given as goal

-- the pins before the one at hand are counted
abbrev pub invariant-loop-pin : goal.invariant-loop-pin
invariant-loop-pin l = record {
  size : length l.counts.items ≡ length l.netlist.nets;
  each : (net : ℕ) → net < length l.netlist.nets →
      slice_index_or l.counts.items net 0 ≡ times net (take l.pin-index l.pin-items);
}
