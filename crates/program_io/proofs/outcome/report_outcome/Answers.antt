use Rattle.program_io.proofs.outcome.report_outcome.Goals as goal

pub returns-in-Counted-clause-reported : goal.returns-in-Counted-clause-reported
returns-in-Counted-clause-reported g c = rw c.in-Counted.is (c.write_counts.ensures.ok, c.write_counts.ensures.err)
