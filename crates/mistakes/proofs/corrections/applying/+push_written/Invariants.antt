use Rattle.std.proofs.Common.{length}
use Rattle.mistakes.proofs.corrections.applying.+push_written.Given as goal

abbrev pub decreases-push_written : goal.decreases-push_written
decreases-push_written l = length l.words.now
