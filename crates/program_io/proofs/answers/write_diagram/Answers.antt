use Rattle.std.proofs.Common.{◌≡◌, refl}
use Rattle.std.proofs.lemmas.Result.{err_from_is_err_and}
use Rattle.plain_runs.specs.Drawn.{diagram_of_source}
use Rattle.prepared_runs.specs.Source.{seen_source}
use Rattle.program_io.specs.Answers.{diagram_answer}
use Rattle.program_io.proofs.AnswerEnds.{AnswerEndsBy-diagram, AnswerEndsBy-flush, GoesOut-diagram, GoesOut-flushed, fault_of_diagram-no_read}
use Rattle.prepared_runs.proofs.CallerLemmas.{tick_by_tick-behind}
use Rattle.program_io.proofs.answers.write_diagram.Goals as goal

pub returns-in_err-diagram_with_progress-clause-err : goal.returns-in_err-diagram_with_progress-clause-err
returns-in_err-diagram_with_progress-clause-err g c =
    let p = err_from_is_err_and c.from_residual.result c.from_residual.ensures.1 in
    rw (p.1, p.2) (AnswerEndsBy-diagram (λ answer. answer ≡ diagram_answer (seen_source c.args.source.now) c.args.view.now c.args.form)
    (diagram_of_source (seen_source c.args.source.now) c.args.view.now c.args.form) refl _ _ _ c.in_err-diagram_with_progress.ensures.err)

pub returns-in_err-diagram_with_progress-clause-no_read : goal.returns-in_err-diagram_with_progress-clause-no_read
returns-in_err-diagram_with_progress-clause-no_read g c =
    let p = err_from_is_err_and c.from_residual.result c.from_residual.ensures.1 in
    rw (p.1, p.2) (fault_of_diagram-no_read _)

pub returns-in_err-flush-clause-err : goal.returns-in_err-flush-clause-err
returns-in_err-flush-clause-err g c =
    let p = err_from_is_err_and c.from_residual-in_err-flush.result c.from_residual-in_err-flush.ensures.1 in
    rw (p.1, p.2) (AnswerEndsBy-flush (λ answer. answer ≡ diagram_answer (seen_source c.args.source.now) c.args.view.now c.args.form) _ _ _ _ (GoesOut-diagram (λ answer. answer ≡ diagram_answer (seen_source c.args.source.now) c.args.view.now c.args.form)
    (diagram_of_source (seen_source c.args.source.now) c.args.view.now c.args.form) refl _ _ c.in_ok-diagram_with_progress.ensures.ok) c.flush.ensures.kept _ c.in_err-flush.ensures.err)

pub returns-in_err-flush-clause-no_read : goal.returns-in_err-flush-clause-no_read
returns-in_err-flush-clause-no_read g c =
    let p = err_from_is_err_and c.from_residual-in_err-flush.result c.from_residual-in_err-flush.ensures.1 in
    rw (p.1, p.2, c.in_err-flush.ensures.err) tt

pub returns-clause-ok : goal.returns-clause-ok
returns-clause-ok g c =
    GoesOut-flushed (λ answer. answer ≡ diagram_answer (seen_source c.args.source.now) c.args.view.now c.args.form) _ _ _ _ (GoesOut-diagram (λ answer. answer ≡ diagram_answer (seen_source c.args.source.now) c.args.view.now c.args.form)
    (diagram_of_source (seen_source c.args.source.now) c.args.view.now c.args.form) refl _ _ c.in_ok-diagram_with_progress.ensures.ok) c.flush.ensures.kept

pub returns-in_err-diagram_with_progress-clause-reported : goal.returns-in_err-diagram_with_progress-clause-reported
returns-in_err-diagram_with_progress-clause-reported g c =
    let p = err_from_is_err_and c.from_residual.result c.from_residual.ensures.1 in
    rw p.1 c.in_err-diagram_with_progress.ensures.reported

pub returns-in_err-flush-clause-reported : goal.returns-in_err-flush-clause-reported
returns-in_err-flush-clause-reported g c =
    tick_by_tick-behind (g.P.Progress.reports c.args.view.now.horizon) c.from_residual-in_err-flush.result c.args.view.now.horizon c.args.progress.now
    c.diagram_with_progress.new.progress c.in_ok-diagram_with_progress.ensures.reported
