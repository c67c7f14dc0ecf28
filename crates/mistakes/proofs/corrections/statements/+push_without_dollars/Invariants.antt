use Rattle.std.proofs.Common.{length}
use Rattle.mistakes.proofs.corrections.statements.+push_without_dollars.Given as goal

abbrev pub decreases-push_without_dollars : goal.decreases-push_without_dollars
decreases-push_without_dollars l = length l.words.now
