use Rattle.std.proofs.Common.{length}
use Rattle.mistakes.proofs.corrections.applying.+are_accepted.Given as goal

abbrev pub decreases-are_accepted : goal.decreases-are_accepted
decreases-are_accepted l = length l.lines.now
