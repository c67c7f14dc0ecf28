use Rattle.wave_diff.proofs.FirstDifference.{first_difference-Some, IsFirstDifference-Some}
use Rattle.wave_diff.proofs.laws.first_difference_is_first.Goals as goal

pub returns-clause-is_first : goal.returns-clause-is_first
returns-clause-is_first c = IsFirstDifference-Some

pub returns-clause-only : goal.returns-clause-only
returns-clause-only c = first_difference-Some
