use Rattle.cmb_events.specs.declared.event.Event.TheVariants.{Advance}
use Rattle.cmb_kernel.specs.Step.{step}
use Rattle.cmb_kernel.proofs.Moved.{moved_on, advances_more}
use Rattle.cmb_kernel.proofs.kernel.Kernel.advance_all.Goals as goal

pub loop-net-preserved : goal.loop-net-preserved
loop-net-preserved g c =
    moved_on c.args.self.now (λ s. step s (Advance c.loop-net.net)) c.loop-net.invariant c.in_ok-step.ensures.ok
    (advances_more c.args.self.now.state c.loop-net.net)
