use Rattle.nullsim.proofs.Written.{AreWritten-both}
use Rattle.nullsim.proofs.notes.report_noted.Goals as goal

pub returns-clause-reported : goal.returns-clause-reported
returns-clause-reported g c =
    rw c.followed.ensures.written
    (AreWritten-both _ _ _ _ _ c.report_outcome-reported.result.written c.write_notes.result c.report_outcome-reported.ensures.reported c.write_notes.ensures)
