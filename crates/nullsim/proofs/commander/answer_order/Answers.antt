use Rattle.std.proofs.Common.{refl}
use Rattle.nullsim.proofs.commander.answer_order.Goals as goal

pub returns-clause-reported : goal.returns-clause-reported
returns-clause-reported g c = (c.exit_of_order.result, refl, c.exit_of_order.ensures.reported)
