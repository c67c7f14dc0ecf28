use Rattle.std.proofs.Common.{inl, inr}
use Rattle.std.proofs.KnownBytes.{Keeps-refl}
use Rattle.program_io.proofs.Reported.{DeckReported-read}
use Rattle.program_io.proofs.teller.exit_of_input.Goals as goal

pub returns-in-Ok : goal.returns-in-Ok
returns-in-Ok g c =
    inr (DeckReported-read (g.R.Read.remaining c.args.input.now) c.in-Ok.text.items c.as_slice.result.now c.in-Ok.ensures.bytes c.as_slice.ensures.value
    _ _ _ _ _ c.exit_of_deck.ensures)

pub returns-in-Err : goal.returns-in-Err
returns-in-Err g c = inl (c.in-Err.fault, (c.unread_deck.result, c.unread_deck.ensures, Keeps-refl _, c.report.ensures))
