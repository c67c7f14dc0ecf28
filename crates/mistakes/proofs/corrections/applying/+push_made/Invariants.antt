use Rattle.std.proofs.Common.{length}
use Rattle.mistakes.proofs.corrections.applying.+push_made.Given as goal

abbrev pub decreases-push_made : goal.decreases-push_made
decreases-push_made l = length l.pieces.now
