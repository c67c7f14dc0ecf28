use Rattle.std.proofs.Common.{rules, tests}
use Rattle.std.proofs.lemmas.Iterator.Consumers.{YieldsList-from_first}
use Rattle.std.proofs.lemmas.Iterator.Search.{find_from_yields_List}
use Rattle.mistakes.specs.TimingLines.{is_of_gate}
use Rattle.mistakes.proofs.corrections.traces.gate_line.Goals as goal

pub returns : goal.returns
returns c =
    find_from_yields_List (is_of_gate c.args.net.now) _ _ c.find.result c.find.ensures.ran
    (YieldsList-from_first (λ line. (line.0, line.1.now)) (λ lines. lines) _ c.code_lines.ensures)
    (λ x r q k. search (rules, tests))
