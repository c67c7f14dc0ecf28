use Rattle.logic3.proofs.Waves.{joined-wave_of}
use Rattle.logic3.proofs.laws.waves_join.Goals as goal

pub returns : goal.returns
returns c = joined-wave_of
