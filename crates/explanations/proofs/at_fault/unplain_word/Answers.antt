use Rattle.std.proofs.Common.{rules, tests}
use Rattle.std.proofs.lemmas.Iterator.Consumers.{YieldsList-from_first}
use Rattle.std.proofs.lemmas.Iterator.Search.{find_from_yields_List}
use Rattle.explanations.specs.AtFault.{is_unplain}
use Rattle.explanations.proofs.at_fault.unplain_word.Goals as goal

pub returns : goal.returns
returns c =
    find_from_yields_List is_unplain _ _ c.find.result c.find.ensures.ran
    (YieldsList-from_first (λ word. word.now) (λ words. words) _ c.words_of.ensures)
    (λ x r q k. search (rules, tests))
