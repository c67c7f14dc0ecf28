use Rattle.logic3.proofs.GateLemmas.{value_of_gate-Unknown}
use Rattle.logic3.proofs.laws.unknown_pins.Goals as goal

pub returns : goal.returns
returns c = value_of_gate-Unknown
