use Rattle.std.proofs.lemmas.Result.{err_from_is_err_and}
use Rattle.netlist.specs.Names.{seen_names}
use Rattle.prepared_runs.specs.Source.{seen_source}
use Rattle.program_io.specs.Answers.{IsAnswerOfDiff, compared}
use Rattle.program_io.proofs.AnswerEnds.{AnswerEndsBy-diff, AnswerEndsBy-text, GoesOut-text, IsDiffAnswer-done, IsDiffAnswer-refused, WriteEndsBy-no_read, fault_of_diff-no_read}
use Rattle.program_io.proofs.answers.write_diff.Goals as goal

pub returns-in_err-answer-clause-err : goal.returns-in_err-answer-clause-err
returns-in_err-answer-clause-err g c =
    let p = err_from_is_err_and c.from_residual.result c.from_residual.ensures.1 in
    rw (p.1, p.2) (AnswerEndsBy-diff (IsAnswerOfDiff (seen_source c.args.first.now) (seen_source c.args.second.now) (seen_names c.args.names.now) c.args.ticks) _ _ c.in_err-answer.field-0.0
    (IsDiffAnswer-refused _) c.in_err-answer.ensures.err)

pub returns-in_err-answer-clause-no_read : goal.returns-in_err-answer-clause-no_read
returns-in_err-answer-clause-no_read g c =
    let p = err_from_is_err_and c.from_residual.result c.from_residual.ensures.1 in
    rw (p.1, p.2) (fault_of_diff-no_read c.in_err-answer.field-0.0)

pub returns-in_err-write_text-clause-err : goal.returns-in_err-write_text-clause-err
returns-in_err-write_text-clause-err g c =
    let p = err_from_is_err_and c.from_residual-in_err-write_text.result c.from_residual-in_err-write_text.ensures.1 in
    rw (p.1, p.2) (AnswerEndsBy-text (IsAnswerOfDiff (seen_source c.args.first.now) (seen_source c.args.second.now) (seen_names c.args.names.now) c.args.ticks) (compared c.in_ok-answer.answer.text.items c.in_ok-answer.answer.same) _
    (IsDiffAnswer-done _ _ _ c.in_ok-answer.ensures.ok)
    c.as_slice.ensures.value _ _ _ c.in_err-write_text.ensures.err)

pub returns-in_err-write_text-clause-no_read : goal.returns-in_err-write_text-clause-no_read
returns-in_err-write_text-clause-no_read g c =
    let p = err_from_is_err_and c.from_residual-in_err-write_text.result c.from_residual-in_err-write_text.ensures.1 in
    rw (p.1, p.2) (WriteEndsBy-no_read _ _ _ _ c.in_err-write_text.ensures.err)

pub returns-clause-ok : goal.returns-clause-ok
returns-clause-ok g c =
    rw c.outcome_of.ensures
    (GoesOut-text (IsAnswerOfDiff (seen_source c.args.first.now) (seen_source c.args.second.now) (seen_names c.args.names.now) c.args.ticks) (compared c.in_ok-answer.answer.text.items c.in_ok-answer.answer.same) _
    (IsDiffAnswer-done _ _ _ c.in_ok-answer.ensures.ok)
    c.as_slice.ensures.value _ _ c.in_ok-write_text.ensures.ok)
