use Rattle.std.proofs.Common.{rules, tests, ap, ◌∙◌}
use Rattle.std.proofs.lemmas.Iterator.Consumers.{YieldsList-at, YieldsList-from_filter, YieldsList-from_first}
use Rattle.explanations.specs.AtFault.{is_above, number_or_none}
use Rattle.explanations.specs.Seen.{seen_topic}
use Rattle.explanations.proofs.Chains.{last_from_yields_List}
use Rattle.explanations.proofs.above.line_above.Goals as goal

pub returns : goal.returns
returns c =
    c.number_or_none.ensures
    ∙ ap number_or_none (last_from_yields_List c.last.result c.last.ensures.ran
    (YieldsList-from_filter _ (is_above c.args.subject c.args.number (seen_topic c.args.topic))
    (YieldsList-at c.filter.ensures.source
    (YieldsList-from_first (λ line. (line.0, line.1.now)) (λ lines. lines) _ c.code_lines.ensures))
    c.filter.ensures.closure (λ x r q k. search (rules, tests))))
