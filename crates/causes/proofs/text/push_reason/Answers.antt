use Rattle.std.proofs.Common.{◌++◌, ◌∙◌, ap, sym, slice_get}
use Rattle.causes.specs.Text.{looks_text, reason_text, swings_text}
use Rattle.causes.proofs.Pieces.{joined₂}
use Rattle.causes.proofs.text.push_reason.Goals as goal

pub returns-in_ok-push_swings-in-Swings : goal.returns-in_ok-push_swings-in-Swings
returns-in_ok-push_swings-in-Swings c =
    let design = c.args.design.now in
    let cause = c.args.cause in
    joined₂ _ _ _ (looks_text design (slice_get design.circuit cause.net) cause.at) (swings_text c.in-Swings.since c.in-Swings.period)
    c.in_ok-push_looks-in-Swings.ensures c.in_ok-push_swings-in-Swings.ensures
    ∙ ap (λ reason. c.args.text.now.items ++ reason_text design cause reason) (sym c.in-Swings.is)
