use Rattle.std.proofs.Common.{sym, ◌∙◌, []}
use Rattle.design.proofs.CallerLemmas.{listed_more, listed_same}
use Rattle.plain_runs.specs.Unused.{is_unused_input}
use Rattle.plain_runs.proofs.unused.unused_inputs.Goals as goal
use Rattle.plain_runs.proofs.unused.unused_inputs.Goals.{then-is_unused_input+in_ok-push, else-is_unused_input}

pub loop-net-preserved : goal.loop-net-preserved
loop-net-preserved c =
    elim c.if-is_unused_input.branch [
      | then-is_unused_input+in_ok-push w ↦
          rw (w.nets-is, w.in_ok-push.ensures.items) (listed_more (is_unused_input c.args.netlist.now) c.loop-net.net []
          c.loop-net.nets.items (sym c.is_unused_input.ensures ∙ w.if-is_unused_input.true) c.loop-net.invariant)
      | else-is_unused_input w ↦
          rw w.nets-is (listed_same (is_unused_input c.args.netlist.now) c.loop-net.net []
          c.loop-net.nets.items (sym c.is_unused_input.ensures ∙ w.if-is_unused_input.false) c.loop-net.invariant)
    ]
