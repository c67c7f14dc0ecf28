use Rattle.kernel_uses.proofs.Takes.{taken_more}
use Rattle.kernel_uses.proofs.work_lists.take_all.Goals as goal

pub loop-kernel-preserved : goal.loop-kernel-preserved
loop-kernel-preserved g c =
    taken_more c.args.kernel.now c.loop-kernel.kernel c.apply.new.self c.args.pin (c.is_failed.ensures.circuit c.requires.running) c.requires.running
    c.deliveries.ensures.lists c.deliveries.ensures.others c.progress_left.ensures.any c.loop-kernel.invariant c.in_ok-apply.ensures.ok
    c.in_ok-apply.ensures.exists c.in_ok-apply.ensures.outcome.sound
