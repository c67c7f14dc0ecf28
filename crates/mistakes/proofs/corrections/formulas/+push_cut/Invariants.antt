use Rattle.std.proofs.Common.{length}
use Rattle.mistakes.proofs.corrections.formulas.+push_cut.Given as goal

abbrev pub decreases-push_cut : goal.decreases-push_cut
decreases-push_cut l = length l.words.now
