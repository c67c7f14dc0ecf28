use Rattle.std.proofs.Common.{length}
use Rattle.mistakes.proofs.corrections.formulas.+are_marks_or_nets.Given as goal

abbrev pub decreases-are_marks_or_nets : goal.decreases-are_marks_or_nets
decreases-are_marks_or_nets l = length l.words.now
