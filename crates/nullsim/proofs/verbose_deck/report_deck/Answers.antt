use Rattle.std.proofs.Common.{◌∙◌}
use Rattle.nullsim.specs.Verbose.{if_given}
use Rattle.nullsim.proofs.Written.{AreWritten-both}
use Rattle.nullsim.proofs.verbose_deck.report_deck.Goals as goal

pub returns : goal.returns
returns g c = (
  c.followed.ensures.status ∙ c.report-reported.ensures.0,
  (
    if_given c.args.said,
    rw c.followed.ensures.written
        (AreWritten-both _ _ _ _ _ c.report-reported.result.written c.explain_deck-explained.result c.report-reported.ensures.1 c.explain_deck-explained.ensures),
  ),
)
