use Rattle.std.proofs.Common.{length}
use Rattle.mistakes.proofs.corrections.accepted.Refused.+has_nets_at.Given as goal

abbrev pub decreases-has_nets_at : goal.decreases-has_nets_at
decreases-has_nets_at l = length l.places.now
