use Rattle.timing_diagram.proofs.Rulers.{label-drawn, label-inside, label-round}
use Rattle.timing_diagram.proofs.laws.labels_are_round.Goals as goal

pub returns-clause-round : goal.returns-clause-round
returns-clause-round c = label-round

pub returns-clause-drawn : goal.returns-clause-drawn
returns-clause-drawn c = label-drawn

pub returns-clause-inside : goal.returns-clause-inside
returns-clause-inside c = label-inside
