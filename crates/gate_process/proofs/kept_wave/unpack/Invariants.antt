use Rattle.std.proofs.Common.{◌≡◌, ◌+◌, ◌-◌, ◌≤◌, ◌++◌, length, take}
use Rattle.std.specs.Vec.{vec_len, vec_capacity}
use Rattle.gate_process.proofs.kept_wave.unpack.Given as goal

abbrev pub invariant-loop-change : goal.invariant-loop-change
invariant-loop-change l = record {
  list : l.list.items ≡ l.fn.list.items ++ take l.change-index l.changes;
  room : vec_len l.list + (length l.changes - l.change-index) ≤ vec_capacity l.list;
}
