use Rattle.timing_diagram.proofs.Escapes.{opens_nothing, closes_nothing}
use Rattle.timing_diagram.proofs.laws.names_are_escaped.Goals as goal

pub returns-clause-opens : goal.returns-clause-opens
returns-clause-opens c = opens_nothing

pub returns-clause-closes : goal.returns-clause-closes
returns-clause-closes c = closes_nothing
