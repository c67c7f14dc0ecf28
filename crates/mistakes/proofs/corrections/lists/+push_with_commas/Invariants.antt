use Rattle.std.proofs.Common.{length}
use Rattle.mistakes.proofs.corrections.lists.+push_with_commas.Given as goal

abbrev pub decreases-push_with_commas : goal.decreases-push_with_commas
decreases-push_with_commas l = length l.words.now
