use Rattle.std.proofs.Common.{◌≡◌, ◌+◌, ◌-◌, ◌≤◌, ◌++◌, length, take}
use Rattle.std.specs.Vec.{vec_len, vec_capacity}
use Rattle.cmb_channels.proofs.logs.messages.unpack.Given as goal

abbrev pub invariant-loop-message : goal.invariant-loop-message
invariant-loop-message l = record {
  wide : l.wide.items ≡ l.fn.wide.items ++ take l.message-index l.messages;
  room : vec_len l.wide + (length l.messages - l.message-index) ≤ vec_capacity l.wide;
}
