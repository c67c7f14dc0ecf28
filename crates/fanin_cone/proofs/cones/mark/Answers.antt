use Rattle.std.proofs.Common.{◌<◌, length, get_or}
use Rattle.fanin_cone.proofs.Marking.{Marks-marked, Marks-new}
use Rattle.fanin_cone.proofs.cones.mark.Goals as goal
use Rattle.fanin_cone.proofs.cones.mark.Goals.{then-not-marks-net+in_ok-push, else-not-marks-net}

pub loop-net-preserved : goal.loop-net-preserved
loop-net-preserved c =
    let nets = c.args.nets.now in
    let i = c.loop-net.net-index in
    let known = c.loop-net.invariant in
    let below : get_or nets i 0 < length c.loop-net.marks = rw known.size (c.requires i 0 c.loop-net-test.true) in
    elim c.if-not-marks-net.branch [
      | then-not-marks-net+in_ok-push w ↦
          rw (w.marks-is, w.list-is, w.in_ok-push.ensures.items) (Marks-new nets i c.loop-net-test.true c.args.marks.now c.loop-net.marks c.args.list.now.items c.loop-net.list.items below known w.if-not-marks-net.true)
      | else-not-marks-net w ↦
          rw (w.marks-is, w.list-is) (Marks-marked nets i c.loop-net-test.true c.args.marks.now c.loop-net.marks c.args.list.now.items c.loop-net.list.items below known w.if-not-marks-net.false)
    ]
