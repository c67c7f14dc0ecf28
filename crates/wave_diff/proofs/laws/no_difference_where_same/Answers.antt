use Rattle.wave_diff.proofs.FirstDifference.{first_difference-None, SameWhereCompared-None}
use Rattle.wave_diff.proofs.laws.no_difference_where_same.Goals as goal

pub returns-clause-none : goal.returns-clause-none
returns-clause-none c = SameWhereCompared-None

pub returns-clause-same : goal.returns-clause-same
returns-clause-same c = first_difference-None

pub returns-clause-same_to_end : goal.returns-clause-same_to_end
returns-clause-same_to_end c = λ first second compared same. first_difference-None first second compared (λ tick is. same tick is.early_enough)
