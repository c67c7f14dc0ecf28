use Rattle.std.proofs.Common.{length}
use Rattle.mistakes.proofs.corrections.names.+may_be_names.Given as goal

abbrev pub decreases-may_be_names : goal.decreases-may_be_names
decreases-may_be_names l = length l.words.now
