use Rattle.fanin_cone.proofs.Numbered.{IsNumbered-marked, IsNumbered-unmarked}
use Rattle.fanin_cone.proofs.cones.marked_nets.Goals as goal
use Rattle.fanin_cone.proofs.cones.marked_nets.Goals.{then-is_marked+in_ok-push, else-is_marked}

pub loop-net-preserved : goal.loop-net-preserved
loop-net-preserved c =
    let marks = c.args.marks.now in
    let known = c.loop-net.invariant in
    elim c.if-is_marked.branch [
      | then-is_marked+in_ok-push w ↦
          rw (w.nets-is, w.in_ok-push.ensures.items) (IsNumbered-marked marks c.loop-net.net c.loop-net.nets.items known w.if-is_marked.true)
      | else-is_marked w ↦ rw w.nets-is (IsNumbered-unmarked marks c.loop-net.net c.loop-net.nets.items known w.if-is_marked.false)
    ]
