use Rattle.std.proofs.Common.{ap, ◌∙◌}
use Rattle.mistakes.specs.Corrections.{is_accepted}
use Rattle.mistakes.specs.SeenCorrections.{seen_refused, seen_words}
use Rattle.mistakes.proofs.corrections.applying.is_made_accepted.Goals as goal

pub returns : goal.returns
returns c =
    c.is_accepted.ensures
    ∙ ap (is_accepted (seen_refused c.args.refused)) (ap seen_words c.as_slice.ensures.value ∙ c.in_ok-line.ensures)
