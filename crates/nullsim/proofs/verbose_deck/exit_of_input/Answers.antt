use Rattle.std.proofs.Common.{inl, inr, ◌+◌, ◌≡◌, take, IfSome, subst}
use Rattle.std.proofs.KnownBytes.{Keeps-refl}
use Rattle.texts.specs.Text.{longest_text}
use Rattle.nullsim.proofs.Telling.{IfSome-read}
use Rattle.nullsim.proofs.verbose_deck.exit_of_input.Goals as goal

pub returns-in-Ok : goal.returns-in-Ok
returns-in-Ok g c =
    let remaining = g.R.Read.remaining in
    let read = subst (λ reader. IfSome (remaining reader) (λ all. c.in-Ok.deck.items ≡ take (longest_text + 1) all)) c.new-input.ensures c.in-Ok.ensures.bytes in
    inr (c.as_slice.result.now, IfSome-read (remaining c.args.input.now) c.in-Ok.deck.items c.as_slice.result.now read c.as_slice.ensures.value, c.exit_of_deck.ensures)

pub returns-in-Err : goal.returns-in-Err
returns-in-Err g c = inl (c.in-Err.fault, (c.unread_deck.result, c.unread_deck.ensures, Keeps-refl _, c.report_deck.ensures))
