use Rattle.std.proofs.Common.{◌≡◌, ℕ, ◌<◌, slice_index}
use Rattle.cmb_channels.specs.Waiting.{lists_in, HasRoom}
use Rattle.cmb_channels.proofs.queues.filling.reserve_places.Given as goal

abbrev pub invariant-loop-pin : goal.invariant-loop-pin
invariant-loop-pin l = record {
  lists : lists_in l.queues.items ≡ lists_in l.fn.queues.items;
  room : (k : ℕ) → k < l.pin-index → HasRoom l.queues.items (slice_index l.pins k);
}
