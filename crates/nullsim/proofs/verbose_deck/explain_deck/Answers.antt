use Rattle.std.proofs.KnownBytes.{Appends-nil}
use Rattle.std.proofs.lemmas.Result.{err_from_is_err_and}
use Rattle.nullsim.proofs.verbose_deck.explain_deck.Goals as goal

-- nothing is a prefix of what is printed
pub returns-in_err-text : goal.returns-in_err-text
returns-in_err-text g c =
    let p = err_from_is_err_and c.from_residual.result c.from_residual.ensures.1 in
    rw p.1 (tt, (0, Appends-nil (g.E.Write.contents c.args.err.now)))

pub returns-in_err-write_all_bytes : goal.returns-in_err-write_all_bytes
returns-in_err-write_all_bytes g c =
    let p = err_from_is_err_and c.from_residual-in_err-write_all_bytes.result c.from_residual-in_err-write_all_bytes.ensures.1 in
    rw (p.1, ← c.in_ok-text.ensures, ← c.as_slice.ensures.value) (tt, c.in_err-write_all_bytes.ensures.err)

pub returns : goal.returns
returns g c = rw (← c.in_ok-text.ensures, ← c.as_slice.ensures.value) (c.in_ok-write_all_bytes.ensures.ok, tt)
