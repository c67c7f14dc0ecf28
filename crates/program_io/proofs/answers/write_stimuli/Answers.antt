use Rattle.std.proofs.lemmas.Result.{err_from_is_err_and}
use Rattle.std.proofs.Common.{◌≡◌, ap, map}
use Rattle.std.specs.Result.{result_map_both}
use Rattle.drawn_stimuli.specs.Given.{seen_drive}
use Rattle.program_io.specs.Answers.{just, stimuli_answer}
use Rattle.program_io.specs.ProgramFaults.{fault_of_driven}
use Rattle.program_io.proofs.AnswerEnds.{AnswerEndsBy-driven, AnswerEndsBy-text, GoesOut-text, WriteEndsBy-no_read, fault_of_driven-no_read}
use Rattle.program_io.proofs.answers.write_stimuli.Goals as goal

pub returns-in_err-text-clause-err : goal.returns-in_err-text-clause-err
returns-in_err-text-clause-err g c =
    let p = err_from_is_err_and c.from_residual.result c.from_residual.ensures.1 in
    rw (p.1, p.2) (AnswerEndsBy-driven (λ answer. answer ≡ stimuli_answer c.args.bench.now (map seen_drive c.args.drives.now) c.args.draws c.args.horizon) _ c.in_err-text.field-0.0
    (λ other. ap (result_map_both just fault_of_driven) (c.in_err-text.ensures.exact (λ same. other (cc)))))

pub returns-in_err-text-clause-no_read : goal.returns-in_err-text-clause-no_read
returns-in_err-text-clause-no_read g c =
    let p = err_from_is_err_and c.from_residual.result c.from_residual.ensures.1 in
    rw (p.1, p.2) (fault_of_driven-no_read _)

pub returns-in_err-write_text-clause-err : goal.returns-in_err-write_text-clause-err
returns-in_err-write_text-clause-err g c =
    let p = err_from_is_err_and c.from_residual-in_err-write_text.result c.from_residual-in_err-write_text.ensures.1 in
    rw (p.1, p.2) (AnswerEndsBy-text (λ answer. answer ≡ stimuli_answer c.args.bench.now (map seen_drive c.args.drives.now) c.args.draws c.args.horizon) (just c.in_ok-text.text.items) _
    (ap (result_map_both just fault_of_driven) (c.in_ok-text.ensures.exact (λ same. (cc)))) c.as_slice.ensures.value _ _ _ c.in_err-write_text.ensures.err)

pub returns-in_err-write_text-clause-no_read : goal.returns-in_err-write_text-clause-no_read
returns-in_err-write_text-clause-no_read g c =
    let p = err_from_is_err_and c.from_residual-in_err-write_text.result c.from_residual-in_err-write_text.ensures.1 in
    rw (p.1, p.2) (WriteEndsBy-no_read _ _ _ _ c.in_err-write_text.ensures.err)

pub returns-clause-ok : goal.returns-clause-ok
returns-clause-ok g c =
    GoesOut-text (λ answer. answer ≡ stimuli_answer c.args.bench.now (map seen_drive c.args.drives.now) c.args.draws c.args.horizon) (just c.in_ok-text.text.items) _
    (ap (result_map_both just fault_of_driven) (c.in_ok-text.ensures.exact (λ same. (cc)))) c.as_slice.ensures.value _ _ c.in_ok-write_text.ensures.ok
