use Rattle.std.proofs.Common.{length}
use Rattle.mistakes.proofs.corrections.names.+push_underscored.Given as goal

abbrev pub decreases-push_underscored : goal.decreases-push_underscored
decreases-push_underscored l = length l.words.now
