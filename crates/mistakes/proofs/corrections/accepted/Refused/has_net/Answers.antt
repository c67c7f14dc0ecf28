use Rattle.std.proofs.Common.{rules, tests}
use Rattle.std.proofs.lemmas.Iterator.Consumers.{YieldsList-from_first}
use Rattle.std.proofs.lemmas.Iterator.Search.{any_from_yields_List}
use Rattle.mistakes.specs.Corrections.{defines_suited}
use Rattle.mistakes.proofs.corrections.accepted.Refused.has_net.Goals as goal

pub returns : goal.returns
returns c =
    any_from_yields_List (defines_suited c.args.self.subject c.args.name.now) _ _ _ c.any.ensures.ran
    (YieldsList-from_first (λ line. (line.0, line.1.now)) (λ lines. lines) _ c.code_lines.ensures)
    (λ x r q k. search (rules, tests))
