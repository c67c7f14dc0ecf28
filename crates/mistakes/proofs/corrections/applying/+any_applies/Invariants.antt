use Rattle.std.proofs.Common.{length}
use Rattle.mistakes.proofs.corrections.applying.+any_applies.Given as goal

abbrev pub decreases-any_applies : goal.decreases-any_applies
decreases-any_applies l = length l.table.now
