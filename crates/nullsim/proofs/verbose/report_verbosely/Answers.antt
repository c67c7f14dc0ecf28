use Rattle.std.proofs.Common.{◌∙◌}
use Rattle.nullsim.proofs.Written.{AreWritten-both}
use Rattle.nullsim.proofs.verbose.report_verbosely.Goals as goal

pub returns-clause-reported : goal.returns-clause-reported
returns-clause-reported g c = (
  c.followed.ensures.status ∙ c.report-reported.ensures.0,
  rw (c.followed.ensures.written, ← c.side.ensures, ← c.text_names.ensures)
      (AreWritten-both _ _ _ _ _ c.report-reported.result.written c.explain_fault-explained.result c.report-reported.ensures.1 c.explain_fault-explained.ensures),
)
