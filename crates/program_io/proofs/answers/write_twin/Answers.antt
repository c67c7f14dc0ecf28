use Rattle.std.proofs.lemmas.Result.{err_from_is_err_and}
use Rattle.std.proofs.Common.{◌∙◌}
use Rattle.prepared_runs.specs.Source.{seen_source}
use Rattle.kernel_runs.specs.AnswerText.{twin_text}
use Rattle.program_io.specs.Answers.{IsAnswerOfTwin, just}
use Rattle.program_io.proofs.AnswerEnds.{AnswerEndsBy-text, AnswerEndsBy-twin, GoesOut-text, IsTwinAnswer-done, IsTwinAnswer-refused, WriteEndsBy-no_read, fault_of_run-no_read}
use Rattle.program_io.proofs.answers.write_twin.Goals as goal

pub returns-in_err-answer-clause-err : goal.returns-in_err-answer-clause-err
returns-in_err-answer-clause-err g c =
    let p = err_from_is_err_and c.from_residual.result c.from_residual.ensures.1 in
    rw (p.1, p.2) (AnswerEndsBy-twin (IsAnswerOfTwin (seen_source c.args.first.now) (seen_source c.args.second.now) c.args.net.now c.args.horizon) _ _ c.in_err-answer.field-0.0
    (IsTwinAnswer-refused _ c.args.net.now c.args.horizon) c.in_err-answer.ensures.err)

pub returns-in_err-answer-clause-no_read : goal.returns-in_err-answer-clause-no_read
returns-in_err-answer-clause-no_read g c =
    let p = err_from_is_err_and c.from_residual.result c.from_residual.ensures.1 in
    let fault = c.in_err-answer.field-0.0 in
    rw (p.1, p.2) (fault_of_run-no_read fault.side fault.fault)

pub returns-in_err-write_text-clause-err : goal.returns-in_err-write_text-clause-err
returns-in_err-write_text-clause-err g c =
    let p = err_from_is_err_and c.from_residual-in_err-write_text.result c.from_residual-in_err-write_text.ensures.1 in
    rw (p.1, p.2) (AnswerEndsBy-text (IsAnswerOfTwin (seen_source c.args.first.now) (seen_source c.args.second.now) c.args.net.now c.args.horizon) (just (twin_text c.in_ok-answer.answer)) _
    (IsTwinAnswer-done _ c.args.net.now c.args.horizon c.in_ok-answer.answer c.in_ok-answer.ensures.ok)
    (c.as_bytes.ensures.value ∙ c.as_str.ensures.value ∙ c.in_ok-text.ensures) _ _ _ c.in_err-write_text.ensures.err)

pub returns-in_err-write_text-clause-no_read : goal.returns-in_err-write_text-clause-no_read
returns-in_err-write_text-clause-no_read g c =
    let p = err_from_is_err_and c.from_residual-in_err-write_text.result c.from_residual-in_err-write_text.ensures.1 in
    rw (p.1, p.2) (WriteEndsBy-no_read _ _ _ _ c.in_err-write_text.ensures.err)

pub returns-clause-ok : goal.returns-clause-ok
returns-clause-ok g c =
    GoesOut-text (IsAnswerOfTwin (seen_source c.args.first.now) (seen_source c.args.second.now) c.args.net.now c.args.horizon) (just (twin_text c.in_ok-answer.answer)) _
    (IsTwinAnswer-done _ c.args.net.now c.args.horizon c.in_ok-answer.answer c.in_ok-answer.ensures.ok)
    (c.as_bytes.ensures.value ∙ c.as_str.ensures.value ∙ c.in_ok-text.ensures) _ _ c.in_ok-write_text.ensures.ok
