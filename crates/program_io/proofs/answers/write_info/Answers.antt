use Rattle.std.proofs.Common.{inl}
use Rattle.std.proofs.KnownBytes.{Keeps-refl}
use Rattle.std.proofs.lemmas.Result.{err_from_is_err_and}
use Rattle.prepared_runs.specs.Source.{design_of_source, seen_source}
use Rattle.program_io.specs.Answers.{IsAnswerOfInfo, just}
use Rattle.program_io.proofs.AnswerEnds.{AnswerEndsBy-source, AnswerEndsBy-text, GoesOut-text, IsInfoAnswer-done, IsInfoAnswer-refused, WriteEndsBy-no_read, fault_of_run-no_read}
use Rattle.program_io.proofs.answers.write_info.Goals as goal

pub returns-in_err-design-clause-err : goal.returns-in_err-design-clause-err
returns-in_err-design-clause-err g c =
    let p = err_from_is_err_and c.from_residual.result c.from_residual.ensures.1 in
    let source = seen_source c.args.source.now in
    rw (p.1, p.2) (AnswerEndsBy-source (IsAnswerOfInfo source) _ (design_of_source source 0) _ (IsInfoAnswer-refused _) c.in_err-design.ensures.err)

pub returns-in_err-design-clause-no_read : goal.returns-in_err-design-clause-no_read
returns-in_err-design-clause-no_read g c =
    let p = err_from_is_err_and c.from_residual.result c.from_residual.ensures.1 in
    rw (p.1, p.2) (fault_of_run-no_read _ _)

pub returns-in_err-text-clause-err : goal.returns-in_err-text-clause-err
returns-in_err-text-clause-err g c =
    let p = err_from_is_err_and c.from_residual-in_err-text.result c.from_residual-in_err-text.ensures.1 in
    rw (p.1, p.2) (inl (Keeps-refl _))

pub returns-in_err-write_text-clause-err : goal.returns-in_err-write_text-clause-err
returns-in_err-write_text-clause-err g c =
    let p = err_from_is_err_and c.from_residual-in_err-write_text.result c.from_residual-in_err-write_text.ensures.1 in
    rw (p.1, p.2) (AnswerEndsBy-text (IsAnswerOfInfo (seen_source c.args.source.now)) (just c.in_ok-text.text.items) _
    (IsInfoAnswer-done _ _ c.in_ok-text.text.items c.in_ok-design.ensures.ok c.in_ok-text.ensures) c.as_slice.ensures.value _ _ _ c.in_err-write_text.ensures.err)

pub returns-in_err-write_text-clause-no_read : goal.returns-in_err-write_text-clause-no_read
returns-in_err-write_text-clause-no_read g c =
    let p = err_from_is_err_and c.from_residual-in_err-write_text.result c.from_residual-in_err-write_text.ensures.1 in
    rw (p.1, p.2) (WriteEndsBy-no_read _ _ _ _ c.in_err-write_text.ensures.err)

pub returns-clause-ok : goal.returns-clause-ok
returns-clause-ok g c =
    GoesOut-text (IsAnswerOfInfo (seen_source c.args.source.now)) (just c.in_ok-text.text.items) _
    (IsInfoAnswer-done _ _ c.in_ok-text.text.items c.in_ok-design.ensures.ok c.in_ok-text.ensures) c.as_slice.ensures.value _ _ c.in_ok-write_text.ensures.ok
