use Rattle.std.proofs.Common.{length}
use Rattle.mistakes.proofs.corrections.applying.+only.Given as goal

abbrev pub decreases-only : goal.decreases-only
decreases-only l = length l.table.now
