use Rattle.std.proofs.Common.{sym, ap, ◌∙◌, []}
use Rattle.design.proofs.CallerLemmas.{listed_more, listed_same}
use Rattle.netlist.specs.Part.{is_flop}
use Rattle.circuit_info.specs.PathText.{is_flop_at}
use Rattle.circuit_info.proofs.path_lines.flops.Goals as goal
use Rattle.circuit_info.proofs.path_lines.flops.Goals.{then-is_flop+in_ok-push, else-is_flop}

pub loop-net-preserved : goal.loop-net-preserved
loop-net-preserved c =
    elim c.if-is_flop.branch [
      | then-is_flop+in_ok-push w ↦
          rw (w.flops-is, w.in_ok-push.ensures.items) (listed_more (is_flop_at c.args.netlist.now) c.loop-net.net []
          c.loop-net.flops.items (ap is_flop (sym c.part.ensures) ∙ sym c.is_flop.ensures ∙ w.if-is_flop.true) c.loop-net.invariant)
      | else-is_flop w ↦
          rw w.flops-is (listed_same (is_flop_at c.args.netlist.now) c.loop-net.net []
          c.loop-net.flops.items (ap is_flop (sym c.part.ensures) ∙ sym c.is_flop.ensures ∙ w.if-is_flop.false) c.loop-net.invariant)
    ]
