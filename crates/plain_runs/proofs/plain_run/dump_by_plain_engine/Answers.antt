use Rattle.std.proofs.lemmas.Result.{err_from_is_err_and}
use Rattle.prepared_runs.proofs.CallerLemmas.{BreaksOff-memory}
use Rattle.prepared_runs.proofs.CallerLemmas.{tick_by_tick-behind}
use Rattle.plain_runs.proofs.plain_run.dump_by_plain_engine.Goals as goal

pub returns-in_err-waves-clause-err : goal.returns-in_err-waves-clause-err
returns-in_err-waves-clause-err g c =
    let p = err_from_is_err_and c.from_residual.result c.from_residual.ensures.1 in
    rw (p.1, p.2) (BreaksOff-memory _ _)

pub returns-in_err-waves-clause-reported : goal.returns-in_err-waves-clause-reported
returns-in_err-waves-clause-reported g c =
    let p = err_from_is_err_and c.from_residual.result c.from_residual.ensures.1 in
    rw p.1 c.in_err-waves.ensures.reported

pub returns-clause-reported : goal.returns-clause-reported
returns-clause-reported g c =
    tick_by_tick-behind (g.P.Progress.reports c.args.horizon) c.write_dump.result c.args.horizon c.args.progress.now c.shown_waves.new.progress c.in_ok-waves.ensures.reported
