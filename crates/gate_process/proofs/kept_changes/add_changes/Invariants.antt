use Rattle.std.proofs.Common.{◌≡◌, ◌+◌, ◌-◌, ◌≤◌, ◌++◌, length, take}
use Rattle.smallvec.specs.SmallVec.{small_vec_len}
use Rattle.cmb_channels.specs.Packed.{changes_said}
use Rattle.gate_process.proofs.kept_changes.add_changes.Given as goal

abbrev pub invariant-loop-message : goal.invariant-loop-message
invariant-loop-message l = record {
  items : l.changes.items ≡ l.fn.changes.items ++ changes_said (take l.message-index l.news);
  room : small_vec_len l.changes + (length l.news - l.message-index) ≤ l.changes.capacity;
}
