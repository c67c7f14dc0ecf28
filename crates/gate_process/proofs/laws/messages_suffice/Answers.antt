use Rattle.gate_process.proofs.Told.{told_all_truth}
use Rattle.gate_process.proofs.laws.messages_suffice.Goals as goal

pub returns : goal.returns
returns c = told_all_truth
