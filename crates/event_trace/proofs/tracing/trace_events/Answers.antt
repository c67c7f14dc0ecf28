use Rattle.std.proofs.Common.{◌+◌, subst}
use Rattle.std.proofs.lemmas.Result.{on_err_weaker, on_ok_weaker}
use Rattle.std.specs.Io.KnownBytes.{Appends}
use Rattle.texts.specs.Written.{AppendsPrefix}
use Rattle.event_trace.specs.Trace.{trace_lines}
use Rattle.event_trace.proofs.ShownTexts.{shown_text-every}
use Rattle.event_trace.proofs.tracing.trace_events.Goals as goal

pub returns-clause-ok : goal.returns-clause-ok
returns-clause-ok g c =
    let circuit = c.args.design.now.circuit in
    on_ok_weaker c.trace_shown_events.result
    (subst (Appends (g.W.Write.contents c.args.out.now) (g.W.Write.contents c.trace_shown_events.new.out))
    (shown_text-every circuit (trace_lines circuit (c.args.horizon + 1) c.args.events.now)))
    c.trace_shown_events.ensures.ok

pub returns-clause-err : goal.returns-clause-err
returns-clause-err g c =
    let circuit = c.args.design.now.circuit in
    on_err_weaker c.trace_shown_events.result
    (subst (AppendsPrefix (g.W.Write.contents c.args.out.now) (g.W.Write.contents c.trace_shown_events.new.out))
    (shown_text-every circuit (trace_lines circuit (c.args.horizon + 1) c.args.events.now)))
    c.trace_shown_events.ensures.err
