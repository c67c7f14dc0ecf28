use Rattle.std.proofs.lemmas.Result.{err_from_is_err_and}
use Rattle.program_io.proofs.answers.dump_and_count.Goals as goal

pub returns-in_err-sweep_with_progress-clause-reported : goal.returns-in_err-sweep_with_progress-clause-reported
returns-in_err-sweep_with_progress-clause-reported g c =
    let p = err_from_is_err_and c.from_residual.result c.from_residual.ensures.1 in
    rw p.1 c.in_err-sweep_with_progress.ensures.reported

pub returns-in_err-report-clause-reported : goal.returns-in_err-report-clause-reported
returns-in_err-report-clause-reported g c =
    let p = err_from_is_err_and c.from_residual-in_err-report.result c.from_residual-in_err-report.ensures.1 in
    rw p.1 c.in_err-report.ensures.reported
