use Rattle.std.proofs.Common.{length, ap, arith}
use Rattle.cmb_kernel.specs.State.{KernelView}
use Rattle.cmb_kernel.proofs.Moved.{delivered_more}
use Rattle.cmb_kernel.proofs.kernel.Kernel.deliver_all.Goals as goal

pub loop-pin-preserved : goal.loop-pin-preserved
loop-pin-preserved g c =
    let all = c.self.invariant (rw (← c.self.view_is) at c.requires) in
    let start = ap (λ (r : KernelView). length r.state.lists) c.self.view_is in
    let pins = all.sound.lists in
    let lists = c.loop-pin.invariant.lists in
    delivered_more c.args.self.now c.loop-pin.self c.deliver_waiting.new.self c.loop-pin.pin (omega (arith, start, pins, lists))
    c.loop-pin.invariant c.in_ok-deliver_waiting.ensures.ok
