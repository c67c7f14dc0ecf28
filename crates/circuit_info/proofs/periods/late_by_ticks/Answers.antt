use Rattle.std.proofs.Common.{sym, ◌∙◌, []}
use Rattle.design.proofs.CallerLemmas.{listed_more, listed_same}
use Rattle.circuit_info.specs.Periods.{is_late}
use Rattle.circuit_info.proofs.periods.late_by_ticks.Goals as goal
use Rattle.circuit_info.proofs.periods.late_by_ticks.Goals.{then-is_late+in_ok-push, else-is_late}

pub loop-net-preserved : goal.loop-net-preserved
loop-net-preserved c =
    elim c.if-is_late.branch [
      | then-is_late+in_ok-push w ↦
          rw (w.flops-is, w.in_ok-push.ensures.items) (listed_more (is_late c.args.design.now) c.loop-net.net []
          c.loop-net.flops.items (sym c.is_late.ensures ∙ w.if-is_late.true) c.loop-net.invariant)
      | else-is_late w ↦
          rw w.flops-is (listed_same (is_late c.args.design.now) c.loop-net.net []
          c.loop-net.flops.items (sym c.is_late.ensures ∙ w.if-is_late.false) c.loop-net.invariant)
    ]
