use Rattle.std.proofs.Common.{refl}
use Rattle.program_io.proofs.teller.answer_deck.Goals as goal

pub returns : goal.returns
returns g c = (c.exit_of_deck.result, refl, c.exit_of_deck.ensures)
