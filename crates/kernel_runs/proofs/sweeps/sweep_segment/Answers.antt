use Rattle.kernel_runs.proofs.Passes.{GoesOn-trans}
use Rattle.kernel_runs.proofs.sweeps.sweep_segment.Goals as goal

pub returns-clause-goes : goal.returns-clause-goes
returns-clause-goes g c = GoesOn-trans c.in_ok-sweep_once.ensures.goes c.in_ok-sweep_loop.ensures.goes
