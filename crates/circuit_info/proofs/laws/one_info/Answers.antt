use Rattle.circuit_info.proofs.Infos.{one_info}
use Rattle.circuit_info.proofs.laws.one_info.Goals as goal

pub returns : goal.returns
returns c = one_info
