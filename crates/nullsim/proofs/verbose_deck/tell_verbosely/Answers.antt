use Rattle.std.proofs.Common.{refl}
use Rattle.nullsim.proofs.verbose_deck.tell_verbosely.Goals as goal

pub returns : goal.returns
returns g c = (c.exit_of_input.result, refl, c.exit_of_input.ensures)
