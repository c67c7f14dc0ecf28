use Rattle.kernel_runs.proofs.Isolated.{isolated_first, isolated_second}
use Rattle.kernel_runs.proofs.laws.isolation.Goals as goal

pub returns-clause-first : goal.returns-clause-first
returns-clause-first c = isolated_first

pub returns-clause-second : goal.returns-clause-second
returns-clause-second c = isolated_second
