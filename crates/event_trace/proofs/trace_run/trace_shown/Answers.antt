use Rattle.std.proofs.lemmas.Result.{err_from_is_err_and, IfErr-weaker}
use Rattle.std.proofs.Common.{sym}
use Rattle.prepared_runs.specs.Prepared.{run_of_source}
use Rattle.prepared_runs.specs.Source.{seen_source}
use Rattle.event_trace.proofs.Traces.{RunEndsBy-unknown, ends_complete_on, shown_trace_of_source-bad, shown_trace_of_source-good, shown_trace_of_source-unknown}
use Rattle.prepared_runs.proofs.CallerLemmas.{RunEndsBy-BreaksOff, RunEndsBy-IsRefusal}
use Rattle.event_trace.proofs.trace_run.trace_shown.Goals as goal

pub returns-in_err-run-clause-err : goal.returns-in_err-run-clause-err
returns-in_err-run-clause-err g c =
    let p = err_from_is_err_and c.from_residual.result c.from_residual.ensures.1 in
    let source = seen_source c.args.source.now in
    rw (p.1, p.2) (RunEndsBy-IsRefusal (run_of_source source c.args.horizon) _ _ _ (shown_trace_of_source-bad source c.args.horizon c.args.view.now _)
    c.in_err-run.ensures.err)

pub returns-in_err-shown-clause-err : goal.returns-in_err-shown-clause-err
returns-in_err-shown-clause-err g c =
    let p = err_from_is_err_and c.from_residual-in_err-shown.result c.from_residual-in_err-shown.ensures.1 in
    let source = seen_source c.args.source.now in
    let view = c.args.view.now in
    let lacks = sym c.in_err-shown.ensures in
    rw (p.1, p.2) (RunEndsBy-unknown _ _ c.in_ok-run.run'.design view.idle view.net _ lacks
    (shown_trace_of_source-unknown source c.args.horizon view _ c.in_ok-run.ensures.ok _ lacks))

pub returns-clause-ok : goal.returns-clause-ok
returns-clause-ok g c =
    rw (shown_trace_of_source-good (seen_source c.args.source.now) c.args.horizon c.args.view.now _ c.in_ok-run.ensures.ok _ (sym c.in_ok-shown.ensures))
    c.trace_prepared.ensures.ok

pub returns-clause-complete : goal.returns-clause-complete
returns-clause-complete g c =
    ends_complete_on (seen_source c.args.source.now) c.args.horizon _ c.trace_prepared.result c.in_ok-run.ensures.ok c.in_ok-run.ensures.exist

pub returns-clause-err : goal.returns-clause-err
returns-clause-err g c =
    rw (shown_trace_of_source-good (seen_source c.args.source.now) c.args.horizon c.args.view.now _ c.in_ok-run.ensures.ok _ (sym c.in_ok-shown.ensures))
    (IfErr-weaker c.trace_prepared.result _ _ (λ fault. RunEndsBy-BreaksOff _ _ _ fault) c.trace_prepared.ensures.err)
