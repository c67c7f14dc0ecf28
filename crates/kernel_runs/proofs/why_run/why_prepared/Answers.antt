use Rattle.std.proofs.lemmas.Result.{err_from_is_err_and}
use Rattle.prepared_runs.proofs.CallerLemmas.{progress-behind}
use Rattle.kernel_runs.proofs.why_run.why_prepared.Goals as goal

pub returns-in_err-waves-clause-reported : goal.returns-in_err-waves-clause-reported
returns-in_err-waves-clause-reported g c =
    let p = err_from_is_err_and c.from_residual.result c.from_residual.ensures.1 in
    rw p.1 c.in_err-waves.ensures.reported

pub returns-in_err-why_text-clause-reported : goal.returns-in_err-why_text-clause-reported
returns-in_err-why_text-clause-reported g c =
    progress-behind (g.P.Progress.reports c.args.run.now.horizon) c.from_residual-in_err-why_text.result c.args.run.now.horizon c.args.progress.now
    c.waves_at_end.new.progress c.in_ok-waves.ensures.reported
