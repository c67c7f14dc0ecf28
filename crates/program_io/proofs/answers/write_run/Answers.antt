use Rattle.std.proofs.Common.{◌≡◌, refl}
use Rattle.std.proofs.lemmas.Result.{err_from_is_err_and}
use Rattle.prepared_runs.specs.Source.{seen_source}
use Rattle.kernel_runs.specs.Simulated.{simulated}
use Rattle.program_io.specs.Answers.{run_answer, with_counts}
use Rattle.program_io.proofs.AnswerEnds.{AnswerEndsBy-flush, AnswerEndsBy-run, GoesOut-flushed, GoesOut-run, fault_of_run-no_read}
use Rattle.prepared_runs.proofs.CallerLemmas.{progress-behind}
use Rattle.program_io.proofs.answers.write_run.Goals as goal

pub returns-in_err-outcome-clause-err : goal.returns-in_err-outcome-clause-err
returns-in_err-outcome-clause-err g c =
    let p = err_from_is_err_and c.from_residual.result c.from_residual.ensures.1 in
    rw (p.1, p.2) (AnswerEndsBy-run (λ answer. answer ≡ run_answer (seen_source c.args.source.now) c.args.view.now c.args.counts) (with_counts c.args.counts)
    (simulated (seen_source c.args.source.now) c.args.view.now) refl _ _ _ c.in_err-outcome.ensures.err)

pub returns-in_err-outcome-clause-no_read : goal.returns-in_err-outcome-clause-no_read
returns-in_err-outcome-clause-no_read g c =
    let p = err_from_is_err_and c.from_residual.result c.from_residual.ensures.1 in
    rw (p.1, p.2) (fault_of_run-no_read _ _)

pub returns-in_err-flush-clause-err : goal.returns-in_err-flush-clause-err
returns-in_err-flush-clause-err g c =
    let p = err_from_is_err_and c.from_residual-in_err-flush.result c.from_residual-in_err-flush.ensures.1 in
    rw (p.1, p.2) (AnswerEndsBy-flush (λ answer. answer ≡ run_answer (seen_source c.args.source.now) c.args.view.now c.args.counts) _ _ _ _ (GoesOut-run (λ answer. answer ≡ run_answer (seen_source c.args.source.now) c.args.view.now c.args.counts) c.args.counts
    (simulated (seen_source c.args.source.now) c.args.view.now) refl _ _ _ c.in_ok-outcome.ensures.ok) c.flush.ensures.kept _ c.in_err-flush.ensures.err)

pub returns-in_err-flush-clause-no_read : goal.returns-in_err-flush-clause-no_read
returns-in_err-flush-clause-no_read g c =
    let p = err_from_is_err_and c.from_residual-in_err-flush.result c.from_residual-in_err-flush.ensures.1 in
    rw (p.1, p.2, c.in_err-flush.ensures.err) tt

pub returns-clause-ok : goal.returns-clause-ok
returns-clause-ok g c =
    (GoesOut-flushed (λ answer. answer ≡ run_answer (seen_source c.args.source.now) c.args.view.now c.args.counts) _ _ _ _ (GoesOut-run (λ answer. answer ≡ run_answer (seen_source c.args.source.now) c.args.view.now c.args.counts) c.args.counts
    (simulated (seen_source c.args.source.now) c.args.view.now) refl _ _ _ c.in_ok-outcome.ensures.ok) c.flush.ensures.kept)

pub returns-in_err-outcome-clause-reported : goal.returns-in_err-outcome-clause-reported
returns-in_err-outcome-clause-reported g c =
    let p = err_from_is_err_and c.from_residual.result c.from_residual.ensures.1 in
    rw p.1 c.in_err-outcome.ensures.reported

pub returns-in_err-flush-clause-reported : goal.returns-in_err-flush-clause-reported
returns-in_err-flush-clause-reported g c =
    progress-behind (g.P.Progress.reports c.args.view.now.horizon) c.from_residual-in_err-flush.result c.args.view.now.horizon c.args.progress.now
    c.dump_and_count.new.progress c.in_ok-outcome.ensures.reported
