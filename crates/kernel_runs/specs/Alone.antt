-- A run of only the nets in the cones of those that are shown.
use Rattle.std.specs.Prelude.{◌≡◌, ◌≢◌, ℕ, ◌<◌, ◌≤◌, List, length, All, AllPairs}
use Rattle.design.specs.Design.{IsDesign}
use Rattle.cmb_events.specs.Schedule.{most_events, Exists}
use Rattle.prepared_runs.specs.declared.preparation.PreparedRun.{PreparedRun}
use Rattle.prepared_runs.specs.Source.{signals_of}

-- a prepared run that can show these nets: it can run, and has each of them, and none is named twice
pub record CanShow (run : PreparedRun) (nets : List ℕ) : Type 0 where
  pub design : IsDesign run.design
  pub exist : All (Exists run.design.circuit) run.schedule
  pub few : length run.schedule ≤ most_events
  pub there : All (λ net. net < length run.design.circuit) nets
  pub once : AllPairs (λ (earlier later : ℕ). earlier ≢ later) nets

-- to the same horizon, these nets of one run show under the same names what those nets of the other show
pub record ShowsTheSame (run : PreparedRun) (nets : List ℕ) (other : PreparedRun) (others : List ℕ) : Type 0 where
  pub horizon : run.horizon ≡ other.horizon
  pub signals : signals_of run.design.circuit nets ≡ signals_of other.design.circuit others
