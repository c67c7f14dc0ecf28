use Rattle.std.proofs.Common.{length}
use Rattle.mistakes.proofs.corrections.accepted.+fits.Given as goal

abbrev pub decreases-fits : goal.decreases-fits
decreases-fits l = length l.words.now
