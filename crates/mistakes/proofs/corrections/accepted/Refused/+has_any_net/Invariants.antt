use Rattle.std.proofs.Common.{length}
use Rattle.mistakes.proofs.corrections.accepted.Refused.+has_any_net.Given as goal

abbrev pub decreases-has_any_net : goal.decreases-has_any_net
decreases-has_any_net l = length l.names.now
