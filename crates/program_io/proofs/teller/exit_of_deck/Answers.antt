use Rattle.std.proofs.Common.{inl, inr}
use Rattle.std.proofs.KnownBytes.{Keeps-refl}
use Rattle.program_io.proofs.Reported.{IsOkAnd-went}
use Rattle.program_io.proofs.teller.exit_of_deck.Goals as goal

pub returns-in-Ok : goal.returns-in-Ok
returns-in-Ok g c = inl (c.silent.ensures.status, IsOkAnd-went _ _ _ _ c.in-Ok.ensures.ok, Keeps-refl _)

pub returns-in-Err : goal.returns-in-Err
returns-in-Err g c = inr (c.in-Err.fault, c.in-Err.ensures.no_read, c.in-Err.ensures.err, c.report.ensures)
