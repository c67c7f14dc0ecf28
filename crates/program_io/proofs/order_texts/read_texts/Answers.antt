use Rattle.std.proofs.Common.{subst}
use Rattle.std.proofs.lemmas.Result.{err_from_is_err_and}
use Rattle.program_io.specs.Options.{KnownTexts, ReadsFiles}
use Rattle.program_io.specs.Readings.{names_in}
use Rattle.program_io.proofs.ReadingsLemmas.{ReadsAll-append, StopsBy-after, StopsBy-longer}
use Rattle.program_io.proofs.order_texts.read_texts.Goals as goal

pub returns-in_err-first-clause-err : goal.returns-in_err-first-clause-err
returns-in_err-first-clause-err g c =
    let p = err_from_is_err_and c.from_residual.result c.from_residual.ensures.1 in
    rw (p.1, p.2, ← c.files.ensures) (StopsBy-longer (names_in c.files.result) _ _ _ _ c.in_err-first.ensures.err)

pub returns-in_err-second-clause-err : goal.returns-in_err-second-clause-err
returns-in_err-second-clause-err g c =
    let p = err_from_is_err_and c.from_residual-in_err-second.result c.from_residual-in_err-second.ensures.1 in
    rw (p.1, p.2, ← c.files.ensures, ← c.files-2.ensures)
    (StopsBy-after (names_in c.files.result) (names_in c.files-2.result) _ _ _ _ c.in_ok-first.ensures.read c.in_err-second.ensures.err)

pub returns-clause-ok : goal.returns-clause-ok
returns-clause-ok g c =
    rw (← c.files.ensures, ← c.files-2.ensures) (
      c.in_ok-first.ensures.ok,
      subst (λ (known : KnownTexts). ReadsFiles known c.files-2.result c.in_ok-second.second) c.read_files.ensures.stays c.in_ok-second.ensures.ok,
    )

pub returns-clause-read : goal.returns-clause-read
returns-clause-read g c =
    rw (← c.files.ensures, ← c.files-2.ensures)
    (ReadsAll-append (names_in c.files.result) (names_in c.files-2.result) _ _ _ c.in_ok-first.ensures.read c.in_ok-second.ensures.read)
