use Rattle.std.proofs.Common.{length}
use Rattle.mistakes.proofs.places.line.Line.+push_expected.Given as goal

abbrev pub decreases-push_expected : goal.decreases-push_expected
decreases-push_expected l = length l.forms.now
