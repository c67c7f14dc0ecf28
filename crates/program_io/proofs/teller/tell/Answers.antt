use Rattle.std.proofs.Common.{refl}
use Rattle.program_io.proofs.teller.tell.Goals as goal

pub returns : goal.returns
returns g c = (c.exit_of_input.result, refl, c.exit_of_input.ensures)
