use Rattle.std.proofs.Common.{◌≡◌, refl}
use Rattle.std.proofs.lemmas.Result.{err_from_is_err_and}
use Rattle.event_trace.specs.Frontiers.{frontiers_of_source}
use Rattle.prepared_runs.specs.Source.{seen_source}
use Rattle.program_io.specs.Answers.{frontiers_answer}
use Rattle.program_io.proofs.AnswerEnds.{AnswerEndsBy-dump, AnswerEndsBy-flush, GoesOut-dump, GoesOut-flushed, fault_of_run-no_read}
use Rattle.program_io.proofs.answers.write_frontiers.Goals as goal

pub returns-in_err-frontiers-clause-err : goal.returns-in_err-frontiers-clause-err
returns-in_err-frontiers-clause-err g c =
    let p = err_from_is_err_and c.from_residual.result c.from_residual.ensures.1 in
    rw (p.1, p.2) (AnswerEndsBy-dump (λ answer. answer ≡ frontiers_answer (seen_source c.args.source.now) c.args.horizon c.args.show.now)
    (frontiers_of_source (seen_source c.args.source.now) c.args.horizon c.args.show.now) refl _ _ _ c.in_err-frontiers.ensures.err)

pub returns-in_err-frontiers-clause-no_read : goal.returns-in_err-frontiers-clause-no_read
returns-in_err-frontiers-clause-no_read g c =
    let p = err_from_is_err_and c.from_residual.result c.from_residual.ensures.1 in
    rw (p.1, p.2) (fault_of_run-no_read _ _)

pub returns-in_err-flush-clause-err : goal.returns-in_err-flush-clause-err
returns-in_err-flush-clause-err g c =
    let p = err_from_is_err_and c.from_residual-in_err-flush.result c.from_residual-in_err-flush.ensures.1 in
    rw (p.1, p.2) (AnswerEndsBy-flush (λ answer. answer ≡ frontiers_answer (seen_source c.args.source.now) c.args.horizon c.args.show.now) _ _ _ _ (GoesOut-dump (λ answer. answer ≡ frontiers_answer (seen_source c.args.source.now) c.args.horizon c.args.show.now)
    (frontiers_of_source (seen_source c.args.source.now) c.args.horizon c.args.show.now) refl _ _ c.in_ok-frontiers.ensures.ok) c.flush.ensures.kept _ c.in_err-flush.ensures.err)

pub returns-in_err-flush-clause-no_read : goal.returns-in_err-flush-clause-no_read
returns-in_err-flush-clause-no_read g c =
    let p = err_from_is_err_and c.from_residual-in_err-flush.result c.from_residual-in_err-flush.ensures.1 in
    rw (p.1, p.2, c.in_err-flush.ensures.err) tt

pub returns-clause-ok : goal.returns-clause-ok
returns-clause-ok g c =
    GoesOut-flushed (λ answer. answer ≡ frontiers_answer (seen_source c.args.source.now) c.args.horizon c.args.show.now) _ _ _ _ (GoesOut-dump (λ answer. answer ≡ frontiers_answer (seen_source c.args.source.now) c.args.horizon c.args.show.now)
    (frontiers_of_source (seen_source c.args.source.now) c.args.horizon c.args.show.now) refl _ _ c.in_ok-frontiers.ensures.ok) c.flush.ensures.kept
