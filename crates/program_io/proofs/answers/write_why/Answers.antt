use Rattle.std.proofs.lemmas.Result.{err_from_is_err_and}
use Rattle.std.proofs.Common.{◌≡◌, refl, sym, ap}
use Rattle.kernel_runs.specs.Explained.{why_of_source}
use Rattle.prepared_runs.specs.Source.{seen_source}
use Rattle.program_io.specs.Answers.{answered, just, why_answer}
use Rattle.program_io.proofs.AnswerEnds.{AnswerEndsBy-refused, AnswerEndsBy-text, GoesOut-text, WriteEndsBy-no_read, fault_of_run-no_read}
use Rattle.prepared_runs.proofs.CallerLemmas.{progress-behind}
use Rattle.program_io.proofs.answers.write_why.Goals as goal

pub returns-in_err-text-clause-err : goal.returns-in_err-text-clause-err
returns-in_err-text-clause-err g c =
    let p = err_from_is_err_and c.from_residual.result c.from_residual.ensures.1 in
    rw (p.1, p.2) (AnswerEndsBy-refused (λ answer. answer ≡ why_answer (seen_source c.args.source.now) c.args.name.now c.args.tick) just (why_of_source (seen_source c.args.source.now) c.args.name.now c.args.tick) refl _ _ c.in_err-text.ensures.err)

pub returns-in_err-text-clause-no_read : goal.returns-in_err-text-clause-no_read
returns-in_err-text-clause-no_read g c =
    let p = err_from_is_err_and c.from_residual.result c.from_residual.ensures.1 in
    rw (p.1, p.2) (fault_of_run-no_read _ _)

pub returns-in_err-write_text-clause-err : goal.returns-in_err-write_text-clause-err
returns-in_err-write_text-clause-err g c =
    let p = err_from_is_err_and c.from_residual-in_err-write_text.result c.from_residual-in_err-write_text.ensures.1 in
    rw (p.1, p.2) (AnswerEndsBy-text (λ answer. answer ≡ why_answer (seen_source c.args.source.now) c.args.name.now c.args.tick) (just c.in_ok-text.text.items) _
    (ap (answered just) (sym c.in_ok-text.ensures.ok)) c.as_slice.ensures.value _ _ _ c.in_err-write_text.ensures.err)

pub returns-in_err-write_text-clause-no_read : goal.returns-in_err-write_text-clause-no_read
returns-in_err-write_text-clause-no_read g c =
    let p = err_from_is_err_and c.from_residual-in_err-write_text.result c.from_residual-in_err-write_text.ensures.1 in
    rw (p.1, p.2) (WriteEndsBy-no_read _ _ _ _ c.in_err-write_text.ensures.err)

pub returns-clause-ok : goal.returns-clause-ok
returns-clause-ok g c =
    GoesOut-text (λ answer. answer ≡ why_answer (seen_source c.args.source.now) c.args.name.now c.args.tick) (just c.in_ok-text.text.items) _
    (ap (answered just) (sym c.in_ok-text.ensures.ok)) c.as_slice.ensures.value _ _ c.in_ok-write_text.ensures.ok

pub returns-in_err-text-clause-reported : goal.returns-in_err-text-clause-reported
returns-in_err-text-clause-reported g c =
    let p = err_from_is_err_and c.from_residual.result c.from_residual.ensures.1 in
    rw p.1 c.in_err-text.ensures.reported

pub returns-in_err-write_text-clause-reported : goal.returns-in_err-write_text-clause-reported
returns-in_err-write_text-clause-reported g c =
    progress-behind (g.P.Progress.reports c.args.tick) c.from_residual-in_err-write_text.result c.args.tick c.args.progress.now
    c.why_with_progress.new.progress c.in_ok-text.ensures.reported
