use Rattle.std.proofs.Common.{length}
use Rattle.mistakes.proofs.corrections.statements.+any_used.Given as goal

abbrev pub decreases-any_used : goal.decreases-any_used
decreases-any_used l = length l.words.now
