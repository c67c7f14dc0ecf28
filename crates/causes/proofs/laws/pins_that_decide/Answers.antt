use Rattle.causes.proofs.Settled.{unknown_decides, settles, changed_last}
use Rattle.causes.proofs.laws.pins_that_decide.Goals as goal

pub returns-clause-unknown : goal.returns-clause-unknown
returns-clause-unknown c = unknown_decides

pub returns-clause-settles : goal.returns-clause-settles
returns-clause-settles c = settles

pub returns-clause-last : goal.returns-clause-last
returns-clause-last c kind values since none place within = changed_last kind values since place none within
