use Rattle.std.proofs.Common.{subst, ap, ◌∙◌, ◌+◌}
use Rattle.std.specs.Io.KnownBytes.{Appends}
use Rattle.std.proofs.lemmas.Result.{err_from_is_err_and}
use Rattle.texts.specs.Written.{AppendsPrefix}
use Rattle.event_trace.specs.Trace.{shown_trace}
use Rattle.prepared_runs.specs.Prepared.{seen_run}
use Rattle.event_trace.proofs.Traces.{shown_trace_of_run-is}
use Rattle.prepared_runs.proofs.CallerLemmas.{BreaksOff-dump}
use Rattle.event_trace.proofs.trace_run.trace_prepared.Goals as goal

pub returns-in_err-trace_shown_events-clause-err : goal.returns-in_err-trace_shown_events-clause-err
returns-in_err-trace_shown_events-clause-err g c =
    let p = err_from_is_err_and c.from_residual.result c.from_residual.ensures.1 in
    let run = c.args.run.now in
    let text = ap (shown_trace c.args.shown run.design.circuit (run.horizon + 1)) c.events-events.ensures ∙ shown_trace_of_run-is c.args.shown (seen_run run) in
    rw (p.1, p.2) (BreaksOff-dump _ _ _ _ c.in_err-trace_shown_events.ensures.fault
    (subst (AppendsPrefix _ _) text c.in_err-trace_shown_events.ensures.err))

pub returns-clause-ok : goal.returns-clause-ok
returns-clause-ok g c =
    let run = c.args.run.now in
    let text = ap (shown_trace c.args.shown run.design.circuit (run.horizon + 1)) c.events-events.ensures ∙ shown_trace_of_run-is c.args.shown (seen_run run) in
    subst (Appends _ _) text c.in_ok-trace_shown_events.ensures.ok
