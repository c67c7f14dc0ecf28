use Rattle.std.proofs.Common.{length}
use Rattle.mistakes.proofs.places.line.Line.+place.Given as goal

abbrev pub decreases-place : goal.decreases-place
decreases-place l = length l.forms.now
