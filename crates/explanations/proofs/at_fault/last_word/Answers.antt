use Rattle.std.proofs.lemmas.Iterator.Consumers.{YieldsList-from_first}
use Rattle.explanations.proofs.Chains.{last_from_yields_List}
use Rattle.explanations.proofs.at_fault.last_word.Goals as goal

pub returns : goal.returns
returns c = last_from_yields_List c.last.result c.last.ensures.ran (YieldsList-from_first (λ word. word.now) (λ words. words) _ c.words_of.ensures)
