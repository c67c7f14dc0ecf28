use Rattle.logic3.proofs.Waves.{wave_of_iff}
use Rattle.logic3.proofs.laws.equal_waves.Goals as goal

pub returns : goal.returns
returns c = wave_of_iff
