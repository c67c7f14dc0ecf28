use Rattle.std.proofs.Common.{◌+◌, ap, subst}
use Rattle.std.proofs.lemmas.Result.{on_err_weaker}
use Rattle.cmb_kernel.specs.State.{KernelView, most_rounds}
use Rattle.texts.specs.Written.{AppendsPrefix}
use Rattle.event_trace.specs.ShownLines.{shown_text}
use Rattle.event_trace.specs.Trace.{lines_from}
use Rattle.event_trace.proofs.WholeTrace.{fresh_undrained}
use Rattle.event_trace.proofs.tracing.trace_shown_events.Goals as goal

pub trace_kernel-requires-clause-undrained : goal.trace_kernel-requires-clause-undrained
trace_kernel-requires-clause-undrained g c =
    fresh_undrained c.args.design.now.circuit (c.args.horizon + 1) c.in_ok-kernel.kernel c.in_ok-kernel.ensures.fresh

pub returns-clause-err : goal.returns-clause-err
returns-clause-err g c =
    on_err_weaker c.trace_kernel.result
    (subst (AppendsPrefix (g.W.Write.contents c.args.out.now) (g.W.Write.contents c.trace_kernel.new.out))
    (ap (λ (k : KernelView). shown_text c.args.shown c.args.design.now.circuit (lines_from k.state (most_rounds k.end k.circuit) c.args.events.now))
    c.in_ok-kernel.ensures.fresh))
    c.trace_kernel.ensures.err
