use Rattle.std.proofs.Common.{length}
use Rattle.mistakes.proofs.corrections.ticks.+push_plain_ticks.Given as goal

abbrev pub decreases-push_plain_ticks : goal.decreases-push_plain_ticks
decreases-push_plain_ticks l = length l.words.now
