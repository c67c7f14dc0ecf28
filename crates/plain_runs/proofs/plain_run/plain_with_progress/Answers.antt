use Rattle.std.proofs.Common.{subst}
use Rattle.std.proofs.lemmas.Result.{err_from_is_err_and, on_ok_weaker, IfErr-weaker}
use Rattle.prepared_runs.specs.Source.{design_of_source, seen_source}
use Rattle.prepared_runs.proofs.CallerLemmas.{dump_of_source-bad, dump_of_source-good, dump_of_source-unknown, RunEndsBy-BreaksOff, RunEndsBy-IsRefusal, IfSome-appended, IsReady-design_of_source, ShowsValues-design_of_source}
use Rattle.prepared_runs.specs.Reported.{IsTickByTick, Reported}
use Rattle.prepared_runs.proofs.CallerLemmas.{tick_by_tick-nothing}
use Rattle.plain_runs.proofs.plain_run.plain_with_progress.Goals as goal

pub returns-in_err-horizon-clause-err : goal.returns-in_err-horizon-clause-err
returns-in_err-horizon-clause-err g c =
    let p = err_from_is_err_and c.from_residual.result c.from_residual.ensures.1 in
    let source = seen_source c.args.source.now in
    let view = c.args.view.now in
    rw (p.1, p.2) (RunEndsBy-IsRefusal (design_of_source source view.horizon) _ _ _ (dump_of_source-bad source view _) c.in_err-horizon.ensures.err)

pub returns-in_err-nets-clause-err : goal.returns-in_err-nets-clause-err
returns-in_err-nets-clause-err g c =
    let p = err_from_is_err_and c.from_residual-in_err-nets.result c.from_residual-in_err-nets.ensures.1 in
    rw (p.1, p.2) (RunEndsBy-IsRefusal _ _ _ _ (dump_of_source-unknown (seen_source c.args.source.now) c.args.view.now _ _ c.in_ok-horizon.ensures.ok _ _) c.in_err-nets.ensures.err)

pub returns-clause-ok : goal.returns-clause-ok
returns-clause-ok g c =
    rw (dump_of_source-good (seen_source c.args.source.now) c.args.view.now _ _ c.in_ok-horizon.ensures.ok c.in_ok-nets.ensures.known) c.dump_by_plain_engine.ensures.ok

pub returns-clause-shows : goal.returns-clause-shows
returns-clause-shows g c =
    let source = seen_source c.args.source.now in
    rw c.in_ok-horizon.ensures.ok
    (on_ok_weaker c.dump_by_plain_engine.result
    (λ appends empty. IfSome-appended _ _ _ _ empty appends (ShowsValues-design_of_source source c.args.view.now _ _ c.in_ok-horizon.ensures.ok))
    c.dump_by_plain_engine.ensures.ok)

pub returns-clause-err : goal.returns-clause-err
returns-clause-err g c =
    rw (dump_of_source-good (seen_source c.args.source.now) c.args.view.now _ _ c.in_ok-horizon.ensures.ok c.in_ok-nets.ensures.known)
    (IfErr-weaker c.dump_by_plain_engine.result _ _ (λ fault. RunEndsBy-BreaksOff _ _ _ fault) c.dump_by_plain_engine.ensures.err)

pub returns-in_err-horizon-clause-reported : goal.returns-in_err-horizon-clause-reported
returns-in_err-horizon-clause-reported g c =
    let p = err_from_is_err_and c.from_residual.result c.from_residual.ensures.1 in
    let horizon = c.args.view.now.horizon in
    tick_by_tick-nothing (g.P.Progress.reports horizon) c.from_residual.result _ horizon c.args.progress.now p.1 (g.met.P.Progress.nothing horizon c.args.progress.now)

pub returns-in_err-nets-clause-reported : goal.returns-in_err-nets-clause-reported
returns-in_err-nets-clause-reported g c =
    let p = err_from_is_err_and c.from_residual-in_err-nets.result c.from_residual-in_err-nets.ensures.1 in
    let horizon = c.args.view.now.horizon in
    tick_by_tick-nothing (g.P.Progress.reports horizon) c.from_residual-in_err-nets.result _ horizon c.args.progress.now p.1 (g.met.P.Progress.nothing horizon c.args.progress.now)

pub returns-clause-reported : goal.returns-clause-reported
returns-clause-reported g c =
    let ready = IsReady-design_of_source (seen_source c.args.source.now) c.args.view.now.horizon _ c.in_ok-horizon.ensures.ok in
    subst (λ horizon. Reported (g.P.Progress.reports horizon) (IsTickByTick c.dump_by_plain_engine.result horizon) c.args.progress.now c.dump_by_plain_engine.new.progress)
    ready.horizon c.dump_by_plain_engine.ensures.reported
