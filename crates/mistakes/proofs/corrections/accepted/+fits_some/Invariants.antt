use Rattle.std.proofs.Common.{length}
use Rattle.mistakes.proofs.corrections.accepted.+fits_some.Given as goal

abbrev pub decreases-fits_some : goal.decreases-fits_some
decreases-fits_some l = length l.forms.now
