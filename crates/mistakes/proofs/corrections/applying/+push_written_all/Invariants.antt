use Rattle.std.proofs.Common.{length}
use Rattle.mistakes.proofs.corrections.applying.+push_written_all.Given as goal

abbrev pub decreases-push_written_all : goal.decreases-push_written_all
decreases-push_written_all l = length l.lines.now
