use Rattle.std.proofs.Common.{refl}
use Rattle.nullsim.proofs.verbose.answer_verbosely.Goals as goal

pub returns-clause-reported : goal.returns-clause-reported
returns-clause-reported g c = (c.exit_verbosely.result, refl, c.exit_verbosely.ensures.reported)
