use Rattle.std.proofs.Common.{get_or, arith}
use Rattle.cmb_kernel.specs.Sweeps.{swept_net}
use Rattle.cmb_kernel.proofs.Moved.{moved_on}
use Rattle.cmb_kernel.proofs.SweepLoops.{one_more_net, all_nets}
use Rattle.cmb_kernel.proofs.Swept.{is_swept}
use Rattle.cmb_kernel.proofs.kernel.at_once.Kernel+Logs+W.sweep_at_once.Goals as goal

pub loop-net-preserved : goal.loop-net-preserved
loop-net-preserved g c = record {
  run = moved_on c.args.self.now (λ s. swept_net c.args.tick s (get_or c.args.order.now c.loop-net.net-index 0)) c.loop-net.invariant.run
      c.in_ok-sweep_net_at_once.ensures.ok (one_more_net c.args.tick c.args.order.now c.loop-net.net-index c.args.self.now.state (omega arith));
  sound = c.in_ok-sweep_net_at_once.ensures.sound;
}

pub returns-clause-reaches : goal.returns-clause-reaches
returns-clause-reaches g c =
    is_swept c.args.tick c.args.order.now c.args.self.now c.in_ok-check_running.ensures.circuit c.in_ok-check_running.ensures.sound c.requires.nets
    (all_nets c.args.tick c.loop-net.net-index c.args.order.now c.args.self.now c.loop-net.invariant.run (omega arith))
