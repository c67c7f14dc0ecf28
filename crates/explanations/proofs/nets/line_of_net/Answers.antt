use Rattle.std.proofs.Common.{rules, tests, ap, ◌∙◌}
use Rattle.std.proofs.lemmas.Iterator.Consumers.{YieldsList-from_first}
use Rattle.std.proofs.lemmas.Iterator.Search.{find_from_yields_List}
use Rattle.mistakes.specs.BenchLines.{defines}
use Rattle.explanations.specs.AtFault.{number_or_none}
use Rattle.explanations.proofs.nets.line_of_net.Goals as goal

pub returns : goal.returns
returns c =
    c.number_or_none.ensures
    ∙ ap number_or_none (find_from_yields_List (defines c.args.net.now) _ _ c.find.result c.find.ensures.ran
    (YieldsList-from_first (λ line. (line.0, line.1.now)) (λ lines. lines) _ c.code_lines.ensures)
    (λ x r q k. search (rules, tests)))
