use Rattle.std.proofs.lemmas.Result.{err_from_is_err_and}
use Rattle.prepared_runs.proofs.CallerLemmas.{progress-behind}
use Rattle.kernel_runs.proofs.why_run.waves_at_end.Goals as goal

pub returns-in_err-kernel-clause-reported : goal.returns-in_err-kernel-clause-reported
returns-in_err-kernel-clause-reported g c =
    let p = err_from_is_err_and c.from_residual.result c.from_residual.ensures.1 in
    rw p.1 c.in_err-kernel.ensures.reported

pub returns-in_err-copies-clause-reported : goal.returns-in_err-copies-clause-reported
returns-in_err-copies-clause-reported g c =
    progress-behind (g.P.Progress.reports c.args.run.now.horizon) c.from_residual-in_err-copies.result c.args.run.now.horizon c.args.progress.now
    c.complete_with_progress.new.progress c.in_ok-kernel.ensures.reported
