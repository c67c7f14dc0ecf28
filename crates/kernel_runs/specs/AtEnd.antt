-- The kernel of a run at its end.
use Rattle.std.specs.Prelude.{◌≡◌, ◌+◌, false}
use Rattle.cmb_kernel.specs.State.{KernelView, IsUndrained}
use Rattle.cmb_kernel.specs.Sweeps.{EventsLead}
use Rattle.prepared_runs.specs.declared.preparation.PreparedRun.{PreparedRun}
use Rattle.prepared_runs.specs.Prepared.{seen_run}
use Rattle.kernel_runs.specs.Simulated.{state_after_events, IsKnown}

-- it knows each net of a prepared run up to the horizon, and nothing was taken out; some events led to its state from the
-- one that the run reaches by its picked events
pub record IsAtEnd (run : PreparedRun) (kernel : KernelView) : Type 0 where
  pub running : kernel.failed ≡ false
  pub circuit : kernel.circuit ≡ run.design.circuit
  pub end : kernel.end ≡ run.horizon + 1
  pub known : IsKnown kernel
  pub led : EventsLead run.design.circuit (state_after_events (seen_run run)) kernel.state
  pub undrained : IsUndrained kernel.state
