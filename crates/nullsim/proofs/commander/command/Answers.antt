use Rattle.std.proofs.Common.{refl}
use Rattle.nullsim.proofs.commander.command.Goals as goal

pub returns-clause-ends : goal.returns-clause-ends
returns-clause-ends g c = (c.exit_of_command.result, refl, c.exit_of_command.ensures.ends)

pub returns-clause-version : goal.returns-clause-version
returns-clause-version g c = λ asked. (c.exit_of_command.result, refl, c.exit_of_command.ensures.version asked)
