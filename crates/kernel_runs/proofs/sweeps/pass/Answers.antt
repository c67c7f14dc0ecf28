use Rattle.std.proofs.Common.{◌+◌, ◌≤◌, min, false, ap, arith, length, take}
use Rattle.cmb_kernel.specs.State.{KernelView, frontier_at, least_delay, least_frontier}
use Rattle.cmb_kernel.proofs.CallerLemmas.{rises_by_delay}
use Rattle.kernel_runs.proofs.Passes.{All-stretch, AllFarther-on, AllFarther-same, AllKnow-on, GoesOn-trans, all_know_least, covered, next_segment}
use Rattle.kernel_runs.proofs.Streamed.{least_within}
use Rattle.kernel_runs.proofs.sweeps.pass.Goals as goal

pub loop-segment-preserved : goal.loop-segment-preserved
loop-segment-preserved g c =
    let start = c.args.kernel.now in
    let order = c.args.order.now in
    let begin = c.loop-segment.begin in
    let so_far = c.loop-segment.invariant in
    let goes = c.in_ok-sweep_segment.ensures.goes in
    let next = next_segment start.circuit order begin (length order) c.args.segments.now c.loop-segment.segment-index
    (record { end = 0; loops = false }) (omega (arith, c.loop-segment-test.true)) so_far.left in
    let end = ap (λ (k : KernelView). k.end) so_far.goes.run in
    let low = least_frontier start.end start.state in
    let farther = c.in_ok-sweep_segment.ensures.farther low
    (AllKnow-on so_far.goes low (all_know_least start (c.is_failed.ensures.sound c.requires.running)))
    c.requires.in_time (omega (arith, end, least_within start)) in
    record {
      goes = GoesOn-trans so_far.goes goes;
      farther = All-stretch (λ net. min start.end (low + least_delay start.end start.circuit) ≤ frontier_at c.sweep_segment.new.kernel.state net)
          order begin _ (let some_net = next.0.some_net in omega (arith, some_net))
          (AllFarther-on goes start low (take begin order) so_far.farther)
          (AllFarther-same so_far.goes low c.sweep_segment.new.kernel.state _ farther);
      left = next.1;
    }

pub returns-clause-raises : goal.returns-clause-raises
returns-clause-raises g c =
    let so_far = c.loop-segment.invariant in
    covered so_far.goes c.args.order.now c.args.segments.now c.loop-segment.begin c.loop-segment.segment-index
    (omega (arith, c.loop-segment-test.false)) c.requires.all so_far.farther so_far.left

pub returns-clause-rises : goal.returns-clause-rises
returns-clause-rises g c =
    let start = c.args.kernel.now in
    let so_far = c.loop-segment.invariant in
    rises_by_delay start.circuit start.end _ _ (c.is_failed.ensures.circuit c.requires.running)
    (covered so_far.goes c.args.order.now c.args.segments.now c.loop-segment.begin c.loop-segment.segment-index
    (omega (arith, c.loop-segment-test.false)) c.requires.all so_far.farther so_far.left)
