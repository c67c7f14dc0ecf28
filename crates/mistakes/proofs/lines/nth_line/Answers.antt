use Rattle.std.proofs.Common.{◌==◌, rules, tests}
use Rattle.std.proofs.lemmas.Iterator.Consumers.{nth_from_yields_List}
use Rattle.std.proofs.lemmas.Iterator.Splits.{YieldsList-from_slice_split}
use Rattle.mistakes.proofs.lines.nth_line.Goals as goal

-- the lines are what a split at line feeds gives
pub returns : goal.returns
returns c =
    nth_from_yields_List c.nth.result _ _ c.nth.ensures.ran
    (YieldsList-from_slice_split _ (λ byte. byte == 10) c.args.text.now c.split.ensures.rest c.split.ensures.done c.split.ensures.closure (λ x r q k. search (rules, tests)))
