use Rattle.circuit_info.proofs.LatePaths.{late_each, late_some, loop_found, loop_free}
use Rattle.circuit_info.proofs.laws.late_flops_have_late_paths.Goals as goal

pub returns-clause-some : goal.returns-clause-some
returns-clause-some c = λ design flop formed flat late. late_some design formed flat flop late

pub returns-clause-each : goal.returns-clause-each
returns-clause-each c = λ design flop path formed flat long. late_each design formed flat flop path long

pub returns-clause-free : goal.returns-clause-free
returns-clause-free c = loop_free

pub returns-clause-loops : goal.returns-clause-loops
returns-clause-loops c = loop_found
