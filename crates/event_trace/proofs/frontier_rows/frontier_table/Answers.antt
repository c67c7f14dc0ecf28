use Rattle.std.proofs.Common.{ap, subst, ◌∙◌}
use Rattle.std.proofs.lemmas.Result.{on_err_weaker, on_ok_weaker}
use Rattle.std.specs.Io.KnownBytes.{Appends}
use Rattle.logic3.proofs.CallerLemmas.{OnErr_always}
use Rattle.cmb_kernel.specs.State.{KernelView}
use Rattle.cmb_kernel.specs.Step.{steps}
use Rattle.texts.specs.Written.{AppendsPrefix}
use Rattle.event_trace.specs.Frontiers.{rows_of_kernel, table_text}
use Rattle.event_trace.proofs.GoingOut.{nothing_out}
use Rattle.event_trace.proofs.frontier_rows.frontier_table.Goals as goal

pub returns-in_err-apply_each-clause-err : goal.returns-in_err-apply_each-clause-err
returns-in_err-apply_each-clause-err g c = OnErr_always c.from_residual-in_err-apply_each.result (nothing_out (g.W.Write.contents c.args.out.now) _)

pub returns-clause-ok : goal.returns-clause-ok
returns-clause-ok g c =
    let held = g.W.Write.contents in
    on_ok_weaker c.write_table.result
    (subst (Appends (held c.args.out.now) (held c.write_table.new.out))
    (ap (λ (k : KernelView). table_text k.circuit k.end c.args.nets.now (rows_of_kernel k))
    (c.in_ok-apply_each.ensures.ok ∙ ap (λ (k : KernelView). record k { state = steps k.state c.args.events.now }) c.in_ok-kernel.ensures.fresh)))
    c.write_table.ensures.ok

pub returns-clause-err : goal.returns-clause-err
returns-clause-err g c =
    let held = g.W.Write.contents in
    on_err_weaker c.write_table.result
    (subst (AppendsPrefix (held c.args.out.now) (held c.write_table.new.out))
    (ap (λ (k : KernelView). table_text k.circuit k.end c.args.nets.now (rows_of_kernel k))
    (c.in_ok-apply_each.ensures.ok ∙ ap (λ (k : KernelView). record k { state = steps k.state c.args.events.now }) c.in_ok-kernel.ensures.fresh)))
    c.write_table.ensures.err
