use Rattle.std.proofs.Common.{◌≡◌, ℕ, ◌<◌, ◌≤◌, length, drop, slice_index}
use Rattle.cmb_channels.specs.Waiting.{appended, lists_in, HasRoom}
use Rattle.cmb_channels.proofs.queues.filling.push_at_all.Given as goal

abbrev pub invariant-loop-pin : goal.invariant-loop-pin
invariant-loop-pin l = record {
  rest :
      appended l.message (drop l.pin-index l.pins) (lists_in l.queues.items)
      ≡ appended l.message l.pins (lists_in l.fn.queues.items);
  same_length : length l.queues.items ≡ length l.fn.queues.items;
  room : (k : ℕ) → l.pin-index ≤ k → k < length l.pins → HasRoom l.queues.items (slice_index l.pins k);
}
