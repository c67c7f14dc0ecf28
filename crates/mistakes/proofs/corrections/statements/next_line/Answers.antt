use Rattle.std.proofs.Common.{rules, tests, nat_lt}
use Rattle.std.proofs.lemmas.Iterator.Consumers.{YieldsList-from_first}
use Rattle.std.proofs.lemmas.Iterator.Search.{find_from_yields_List}
use Rattle.mistakes.proofs.corrections.statements.next_line.Goals as goal

pub returns : goal.returns
returns c =
    find_from_yields_List (λ line. nat_lt c.args.number line.0) _ _ c.find.result c.find.ensures.ran
    (YieldsList-from_first (λ line. (line.0, line.1.now)) (λ lines. lines) _ c.code_lines.ensures)
    (λ x r q k. search (rules, tests))
