use Rattle.logic3.proofs.Waves.{value_at-wave_of_back}
use Rattle.logic3.proofs.laws.signal_back.Goals as goal

pub returns : goal.returns
returns c = value_at-wave_of_back
