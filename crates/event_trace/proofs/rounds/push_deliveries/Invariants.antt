-- A delivery for each message so far.
use Rattle.std.proofs.Common.{◌≡◌, ◌++◌, replicate}
use Rattle.cmb_events.specs.declared.event.Event.TheVariants.{Deliver}
use Rattle.event_trace.proofs.rounds.push_deliveries.Given as goal

abbrev pub invariant-loop-message : goal.invariant-loop-message
invariant-loop-message l = l.events.items ≡ l.fn.events.items ++ replicate l._message (Deliver l.pin)
