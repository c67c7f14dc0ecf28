use Rattle.std.proofs.Common.{◌≡◌, ◌+◌, ◌-◌, ◌≤◌, ◌++◌, length, take}
use Rattle.smallvec.specs.SmallVec.{small_vec_len}
use Rattle.cmb_channels.proofs.logs.messages.pack.Given as goal

abbrev pub invariant-loop-message : goal.invariant-loop-message
invariant-loop-message l = record {
  messages : l.packed.items ≡ l.fn.packed.items ++ take l.message-index l.messages;
  room : small_vec_len l.packed + (length l.messages - l.message-index) ≤ l.packed.capacity;
}
