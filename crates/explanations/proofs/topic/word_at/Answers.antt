use Rattle.std.proofs.lemmas.Iterator.Consumers.{nth_from_yields_List, YieldsList-from_first}
use Rattle.explanations.proofs.topic.word_at.Goals as goal

pub returns : goal.returns
returns c = nth_from_yields_List c.nth.result _ _ c.nth.ensures.ran (YieldsList-from_first (λ word. word.now) (λ words. words) _ c.words_of.ensures)
