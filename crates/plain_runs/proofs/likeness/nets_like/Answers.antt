use Rattle.std.proofs.Common.{sym, ap, ◌∙◌, []}
use Rattle.design.proofs.CallerLemmas.{listed_more, listed_same}
use Rattle.plain_runs.specs.Likenesses.{has_likeness, is_like}
use Rattle.plain_runs.proofs.likeness.nets_like.Goals as goal
use Rattle.plain_runs.proofs.likeness.nets_like.Goals.{then-is_of+in_ok-push, else-is_of}

pub loop-net-preserved : goal.loop-net-preserved
loop-net-preserved c =
    elim c.if-is_of.branch [
      | then-is_of+in_ok-push w ↦
          rw (w.nets-is, w.in_ok-push.ensures.items) (listed_more (has_likeness c.args.netlist.now c.args.likeness) c.loop-net.net []
          c.loop-net.nets.items (ap (is_like c.args.likeness) (sym c.name.ensures) ∙ sym c.is_of.ensures ∙ w.if-is_of.true) c.loop-net.invariant)
      | else-is_of w ↦
          rw w.nets-is (listed_same (has_likeness c.args.netlist.now c.args.likeness) c.loop-net.net []
          c.loop-net.nets.items (ap (is_like c.args.likeness) (sym c.name.ensures) ∙ sym c.is_of.ensures ∙ w.if-is_of.false) c.loop-net.invariant)
    ]
