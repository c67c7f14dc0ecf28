use Rattle.program_io.proofs.OneAnswer.{one_answer}
use Rattle.program_io.proofs.laws.one_answer.Goals as goal

pub returns : goal.returns
returns c = one_answer
