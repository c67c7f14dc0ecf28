-- What a run starts from.
use Rattle.std.specs.Prelude.{ℕ, List, Result, Ok}
use Rattle.texts.specs.Text.{◌>>=◌}
use Rattle.design.specs.Design.{DesignView}
use Rattle.cmb_events.specs.declared.event.Event.{Event}
use Rattle.prepared_runs.specs.declared.fault.SimFault.{SimFault}
use Rattle.prepared_runs.specs.declared.preparation.PreparedRun.{PreparedRun}
use Rattle.prepared_runs.specs.Events.{events_of_picks}
use Rattle.prepared_runs.specs.Faults.{sim_of_schedule}
use Rattle.prepared_runs.specs.Source.{SourceView, design_of_source, or_fault}

-- a run: its horizon, its design, and the events that are applied before it completes
pub record RunView : Type 0 where
  pub horizon : ℕ
  pub design : DesignView
  pub events : List Event

abbrev pub seen_run : PreparedRun → RunView
seen_run run = record { horizon = run.horizon; design = run.design; events = run.schedule }

-- the run that settings, texts and picks make, or the first fault
unfoldable pub run_of_source : SourceView → ℕ → Result RunView SimFault
run_of_source source ticks = do
  ready ← design_of_source source ticks
  events ← or_fault sim_of_schedule (events_of_picks (ready.1).circuit source.picks)
  Ok (record { horizon = ready.0; design = ready.1; events = events })
