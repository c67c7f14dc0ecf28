use Rattle.cmb_events.specs.declared.event.Event.TheVariants.{Deliver}
use Rattle.cmb_kernel.specs.Step.{step}
use Rattle.cmb_kernel.proofs.Moved.{moved_on, steps_again}
use Rattle.cmb_kernel.proofs.kernel.Kernel.deliver_waiting.Goals as goal

pub loop-message-preserved : goal.loop-message-preserved
loop-message-preserved g c =
    moved_on c.args.self.now (λ s. step s (Deliver c.args.pin)) c.loop-message.invariant c.in_ok-step.ensures.ok
    (steps_again (Deliver c.args.pin) c.loop-message._message c.args.self.now.state)
