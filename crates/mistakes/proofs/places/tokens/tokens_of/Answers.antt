use Rattle.mistakes.proofs.LineTokens.{length-tokens_from}
use Rattle.mistakes.proofs.places.tokens.tokens_of.Goals as goal

pub returns-clause-few : goal.returns-clause-few
returns-clause-few c = length-tokens_from c.has_marks.result 1 c.args.code.now
