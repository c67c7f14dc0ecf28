use Rattle.std.proofs.Common.{◌≡◌, replicate}
use Rattle.cmb_events.specs.declared.event.Event.TheVariants.{Deliver}
use Rattle.cmb_kernel.specs.Step.{steps}
use Rattle.cmb_kernel.proofs.kernel.Kernel.deliver_waiting.Given as goal

abbrev pub invariant-loop-message : goal.invariant-loop-message
invariant-loop-message g l = l.self ≡ record l.fn.self { state = steps l.fn.self.state (replicate l._message (Deliver l.pin)) }
