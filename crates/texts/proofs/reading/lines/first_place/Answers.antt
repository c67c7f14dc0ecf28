use Rattle.std.proofs.Common.{◌==◌, ◌∙◌, ap, length, rules, tests}
use Rattle.std.specs.Option.{unwrap_or}
use Rattle.std.proofs.lemmas.Iterator.{YieldsList-from_slice}
use Rattle.std.proofs.lemmas.Iterator.Search.{position_from_yields_List}
use Rattle.texts.proofs.Cuts.{unwrap_or-position}
use Rattle.texts.proofs.reading.lines.first_place.Goals as goal

pub returns : goal.returns
returns c =
    let text = c.args.text.now in
    let found = position_from_yields_List (λ other. other == c.args.byte) _ _ _ c.position.ensures.ran (YieldsList-from_slice text cc) (λ x b q k. search (rules, tests)) in
    (cc) ∙ ap (λ place. unwrap_or place (length text)) found ∙ unwrap_or-position (λ other. other == c.args.byte) text
