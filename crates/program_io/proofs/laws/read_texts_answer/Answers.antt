use Rattle.program_io.proofs.ReadAnswers.{IsAnswer-read}
use Rattle.program_io.proofs.laws.read_texts_answer.Goals as goal

pub returns : goal.returns
returns c = IsAnswer-read
