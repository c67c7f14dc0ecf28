use Rattle.std.proofs.Common.{◌<◌, length, sym, ◌∙◌, arith, true≢false}
use Rattle.fanin_cone.proofs.AgreeingMarks.{AreDiffering-agrees, AreDiffering-differs}
use Rattle.fanin_cone.proofs.all_cones.differing_nets.Goals as goal
use Rattle.fanin_cone.proofs.all_cones.differing_nets.Goals.{then-not-agrees_at+in_ok-push, else-not-agrees_at}

pub loop-net-preserved : goal.loop-net-preserved
loop-net-preserved c =
    let a = c.args.first.now in
    let b = c.args.second.now in
    let so_far = c.loop-net.invariant in
    let below : c.loop-net.net < length a.circuit = omega (arith, c.loop-net-test.true, c.loop-net.auto.net-end, c.nets-net-end.ensures.count) in
    elim c.if-not-agrees_at.branch [
      | then-not-agrees_at+in_ok-push w ↦
          rw (w.nets-is, w.in_ok-push.ensures.items) (AreDiffering-differs a b c.args.horizon c.loop-net.net c.loop-net.nets.items so_far below
          (λ agrees. true≢false (sym (c.agrees_at.ensures.1 agrees) ∙ w.if-not-agrees_at.true)))
      | else-not-agrees_at w ↦
          rw w.nets-is (AreDiffering-agrees a b c.args.horizon c.loop-net.net c.loop-net.nets.items so_far (c.agrees_at.ensures.0 w.if-not-agrees_at.false))
    ]
