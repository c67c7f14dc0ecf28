use Rattle.drawn_stimuli.proofs.HeldBits.{held_values}
use Rattle.drawn_stimuli.proofs.laws.held_bits.Goals as goal

pub returns : goal.returns
returns c = held_values
