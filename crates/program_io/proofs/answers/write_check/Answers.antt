use Rattle.std.proofs.lemmas.Result.{err_from_is_err_and}
use Rattle.std.proofs.Common.{◌≡◌, ◌∙◌, refl}
use Rattle.kernel_runs.specs.Checked.{checked}
use Rattle.prepared_runs.specs.Prepared.{run_of_source}
use Rattle.prepared_runs.specs.Source.{seen_source}
use Rattle.kernel_runs.specs.AnswerText.{check_text}
use Rattle.program_io.specs.Answers.{check_answer, just}
use Rattle.program_io.proofs.AnswerEnds.{AnswerEndsBy-refused, AnswerEndsBy-text, GoesOut-text, WriteEndsBy-no_read, answered-checked, fault_of_run-no_read}
use Rattle.program_io.proofs.answers.write_check.Goals as goal

pub returns-in_err-answer-clause-err : goal.returns-in_err-answer-clause-err
returns-in_err-answer-clause-err g c =
    let p = err_from_is_err_and c.from_residual.result c.from_residual.ensures.1 in
    rw (p.1, p.2) (AnswerEndsBy-refused (λ answer. answer ≡ check_answer (seen_source c.args.source.now) c.args.horizon) (λ run. just (check_text (checked run))) (run_of_source (seen_source c.args.source.now) c.args.horizon)
    refl _ _ c.in_err-answer.ensures.err)

pub returns-in_err-answer-clause-no_read : goal.returns-in_err-answer-clause-no_read
returns-in_err-answer-clause-no_read g c =
    let p = err_from_is_err_and c.from_residual.result c.from_residual.ensures.1 in
    rw (p.1, p.2) (fault_of_run-no_read _ _)

pub returns-in_err-write_text-clause-err : goal.returns-in_err-write_text-clause-err
returns-in_err-write_text-clause-err g c =
    let p = err_from_is_err_and c.from_residual-in_err-write_text.result c.from_residual-in_err-write_text.ensures.1 in
    rw (p.1, p.2) (AnswerEndsBy-text (λ answer. answer ≡ check_answer (seen_source c.args.source.now) c.args.horizon) (just (check_text c.in_ok-answer.answer)) _
    (answered-checked (run_of_source (seen_source c.args.source.now) c.args.horizon) c.in_ok-answer.answer c.in_ok-answer.ensures.ok)
    (c.as_bytes.ensures.value ∙ c.as_str.ensures.value ∙ c.in_ok-text.ensures) _ _ _ c.in_err-write_text.ensures.err)

pub returns-in_err-write_text-clause-no_read : goal.returns-in_err-write_text-clause-no_read
returns-in_err-write_text-clause-no_read g c =
    let p = err_from_is_err_and c.from_residual-in_err-write_text.result c.from_residual-in_err-write_text.ensures.1 in
    rw (p.1, p.2) (WriteEndsBy-no_read _ _ _ _ c.in_err-write_text.ensures.err)

pub returns-clause-ok : goal.returns-clause-ok
returns-clause-ok g c =
    GoesOut-text (λ answer. answer ≡ check_answer (seen_source c.args.source.now) c.args.horizon) (just (check_text c.in_ok-answer.answer)) _
    (answered-checked (run_of_source (seen_source c.args.source.now) c.args.horizon) c.in_ok-answer.answer c.in_ok-answer.ensures.ok)
    (c.as_bytes.ensures.value ∙ c.as_str.ensures.value ∙ c.in_ok-text.ensures) _ _ c.in_ok-write_text.ensures.ok
