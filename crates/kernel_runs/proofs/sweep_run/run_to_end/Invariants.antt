-- The run went on, nothing was taken out, and what was known before each sweep was reported.
use Rattle.std.proofs.Common.{◌-◌}
use Rattle.cmb_kernel.specs.State.{IsUndrained, least_frontier}
use Rattle.prepared_runs.specs.Reported.{Reported}
use Rattle.prepared_runs.proofs.CallerLemmas.{RisesFrom}
use Rattle.kernel_runs.specs.Paces.{Covers, GoesOn}
use Rattle.kernel_runs.proofs.sweep_run.run_to_end.Given as goal

abbrev pub invariant-loop-horizon : goal.invariant-loop-horizon
invariant-loop-horizon g l = record {
  goes : GoesOn l.fn.kernel l.kernel;
  undrained : IsUndrained l.kernel.state;
  covers : Covers l.sweeps l.kernel.circuit l.kernel.end;
  reported : Reported (g.P.Progress.reports l.horizon)
      (RisesFrom (least_frontier l.fn.kernel.end l.fn.kernel.state) (least_frontier l.kernel.end l.kernel.state)) l.fn.progress l.progress;
}

abbrev pub decreases-loop-horizon : goal.decreases-loop-horizon
decreases-loop-horizon g l = l.kernel.end - least_frontier l.kernel.end l.kernel.state
