use Rattle.program_io.proofs.fault_line.report.Goals as goal

pub returns : goal.returns
returns g c = (c.status.ensures, (c.write_fault_line-written.ensures.ok, c.write_fault_line-written.ensures.err))
