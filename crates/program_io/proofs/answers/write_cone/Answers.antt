use Rattle.std.proofs.lemmas.Result.{err_from_is_err_and}
use Rattle.std.proofs.Common.{Ok, Err, refl}
use Rattle.netlist.specs.Names.{seen_names}
use Rattle.program_io.specs.Answers.{IsAnswerOfCone, just}
use Rattle.program_io.proofs.AnswerEnds.{AnswerEndsBy-cone, AnswerEndsBy-text, GoesOut-text, WriteEndsBy-no_read, fault_of_cone-no_read}
use Rattle.program_io.proofs.answers.write_cone.Goals as goal

pub returns-in_err-text-clause-err : goal.returns-in_err-text-clause-err
returns-in_err-text-clause-err g c =
    let p = err_from_is_err_and c.from_residual.result c.from_residual.ensures.1 in
    let fault = c.in_err-text.field-0.0 in
    rw (p.1, p.2) (AnswerEndsBy-cone (IsAnswerOfCone c.args.bench.now (seen_names c.args.names.now)) _ fault
    (λ other. (Err fault, c.in_err-text.ensures.cone (λ same. other (cc)), refl)))

pub returns-in_err-text-clause-no_read : goal.returns-in_err-text-clause-no_read
returns-in_err-text-clause-no_read g c =
    let p = err_from_is_err_and c.from_residual.result c.from_residual.ensures.1 in
    rw (p.1, p.2) (fault_of_cone-no_read _)

pub returns-in_err-write_text-clause-err : goal.returns-in_err-write_text-clause-err
returns-in_err-write_text-clause-err g c =
    let p = err_from_is_err_and c.from_residual-in_err-write_text.result c.from_residual-in_err-write_text.ensures.1 in
    rw (p.1, p.2) (AnswerEndsBy-text (IsAnswerOfCone c.args.bench.now (seen_names c.args.names.now)) (just c.in_ok-text.text.items) _
    (Ok c.in_ok-text.text.items, c.in_ok-text.ensures.cone (λ same. (cc)), refl) c.as_slice.ensures.value _ _ _ c.in_err-write_text.ensures.err)

pub returns-in_err-write_text-clause-no_read : goal.returns-in_err-write_text-clause-no_read
returns-in_err-write_text-clause-no_read g c =
    let p = err_from_is_err_and c.from_residual-in_err-write_text.result c.from_residual-in_err-write_text.ensures.1 in
    rw (p.1, p.2) (WriteEndsBy-no_read _ _ _ _ c.in_err-write_text.ensures.err)

pub returns-clause-ok : goal.returns-clause-ok
returns-clause-ok g c =
    GoesOut-text (IsAnswerOfCone c.args.bench.now (seen_names c.args.names.now)) (just c.in_ok-text.text.items) _
    (Ok c.in_ok-text.text.items, c.in_ok-text.ensures.cone (λ same. (cc)), refl) c.as_slice.ensures.value _ _ c.in_ok-write_text.ensures.ok
