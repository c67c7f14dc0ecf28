use Rattle.std.proofs.Common.{length}
use Rattle.mistakes.proofs.corrections.statements.+close_place.Given as goal

abbrev pub decreases-close_place : goal.decreases-close_place
decreases-close_place l = length l.words.now
