use Rattle.std.proofs.Common.{sym, ◌∙◌, []}
use Rattle.design.proofs.CallerLemmas.{listed_more, listed_same}
use Rattle.plain_runs.specs.Remarks.{is_noted}
use Rattle.plain_runs.proofs.notes.noted_nets.Goals as goal
use Rattle.plain_runs.proofs.notes.noted_nets.Goals.{then-is_noted+in_ok-push, else-is_noted}

pub loop-net-preserved : goal.loop-net-preserved
loop-net-preserved c =
    elim c.if-is_noted.branch [
      | then-is_noted+in_ok-push w ↦
          rw (w.nets-is, w.in_ok-push.ensures.items) (listed_more (is_noted c.args.remark c.args.horizon c.args.design.now.circuit) c.loop-net.net []
          c.loop-net.nets.items (sym c.is_noted.ensures ∙ w.if-is_noted.true) c.loop-net.invariant)
      | else-is_noted w ↦
          rw w.nets-is (listed_same (is_noted c.args.remark c.args.horizon c.args.design.now.circuit) c.loop-net.net []
          c.loop-net.nets.items (sym c.is_noted.ensures ∙ w.if-is_noted.false) c.loop-net.invariant)
    ]
