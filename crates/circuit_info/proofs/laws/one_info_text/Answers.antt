use Rattle.circuit_info.proofs.OneText.{one_info_text}
use Rattle.circuit_info.proofs.laws.one_info_text.Goals as goal

pub returns : goal.returns
returns c = one_info_text
