use Rattle.std.proofs.Common.{◌≡◌, [], replicate}
use Rattle.cmb_channels.specs.Waiting.{lists_in}
use Rattle.cmb_channels.proofs.queues.building.empty_queues.Given as goal

abbrev pub invariant-loop-pin : goal.invariant-loop-pin
invariant-loop-pin l = lists_in l.queues.items ≡ replicate l._pin []
