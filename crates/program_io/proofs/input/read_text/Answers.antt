use Rattle.std.proofs.Common.{◌≡◌, ◌≤◌, ◌+◌, ◌∙◌, length, sym, subst, ap, length-append, length-take, arith}
use Rattle.std.specs.Io.KnownBytes.{Consumes}
use Rattle.std.proofs.KnownBytes.{Consumes-trans}
use Rattle.std.proofs.lemmas.Result.{err_from_is_err_and}
use Rattle.texts.specs.Text.{longest_text}
use Rattle.program_io.proofs.Readers.{Consumes-first, Consumes-ended, ReadingEndsBy-after}
use Rattle.program_io.proofs.input.read_text.Goals as goal

pub returns-in_err-read_more-clause-err : goal.returns-in_err-read_more-clause-err
returns-in_err-read_more-clause-err g c =
    let fault = err_from_is_err_and c.from_residual.result c.from_residual.ensures.1 in
    rw (fault.1, fault.2) (ReadingEndsBy-after _ _ _ _ _ c.loop-piece.invariant.consumed c.in_err-read_more.ensures.err)

-- the reader's end came
pub returns-then-not-branch-clause-bytes : goal.returns-then-not-branch-clause-bytes
returns-then-not-branch-clause-bytes g c =
    let more = c.in_ok-read_more.ensures.ok in
    let longer : length c.read_more.new.text.items ≡ length c.loop-piece.text.items + length more.given =
    ap length more.appended ∙ length-append c.loop-piece.text.items more.given in
    let within : length c.read_more.new.text.items ≤ longest_text + 1 = omega (arith, more.within, c.loop-piece.text.ok.0, length-take c.min-room.result c.loop-piece.piece) in
    Consumes-ended _ _ _ (longest_text + 1)
    (subst (Consumes _ _) (sym more.appended) (Consumes-trans _ _ _ _ _ c.loop-piece.invariant.consumed more.consumed))
    (more.none c.if-not-branch.true)
    within

pub returns-clause-bytes : goal.returns-clause-bytes
returns-clause-bytes g c =
    Consumes-first _ _ c.loop-piece.text.items (longest_text + 1) c.loop-piece.invariant.consumed (omega (arith, c.loop-piece.text.ok.0))
