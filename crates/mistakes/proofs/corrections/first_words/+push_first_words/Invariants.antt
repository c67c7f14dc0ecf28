use Rattle.std.proofs.Common.{length}
use Rattle.mistakes.proofs.corrections.first_words.+push_first_words.Given as goal

abbrev pub decreases-push_first_words : goal.decreases-push_first_words
decreases-push_first_words l = length l.forms.now
