use Rattle.std.proofs.Common.{rules, tests}
use Rattle.std.proofs.lemmas.Iterator.Consumers.{YieldsList-from_first}
use Rattle.std.proofs.lemmas.Iterator.Search.{any_from_yields_List}
use Rattle.explanations.specs.OtherTexts.{drives}
use Rattle.explanations.proofs.other_texts.is_driven_in.Goals as goal

pub returns : goal.returns
returns c =
    any_from_yields_List (drives c.args.net.now) _ _ _ c.any.ensures.ran
    (YieldsList-from_first (λ line. (line.0, line.1.now)) (λ lines. lines) _ c.code_lines.ensures)
    (λ x b q k. search (rules, tests))
