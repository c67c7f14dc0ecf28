-- A run by the kernel: what it reports, and its answer.
use Rattle.std.specs.Prelude.{◌≡◌, ℕ, ◌+◌, ◌<◌, ◌≤◌, List, [], length, Option, Some, IfSome, Result, IsOkAnd}
use Rattle.std.specs.Result.{result_map_both}
use Rattle.texts.specs.Text.{◌>>=◌}
use Rattle.design.specs.Circuit.{Circuit}
use Rattle.cmb_kernel.specs.State.{KernelView, State, fresh, started, frontier_at, least_frontier, most_rounds, IsComplete}
use Rattle.cmb_kernel.specs.Step.{steps, completed_within}
use Rattle.prepared_runs.specs.declared.fault.SimFault.{SimFault}
use Rattle.kernel_runs.specs.declared.simulation.Report.{Report}
use Rattle.prepared_runs.specs.declared.view.DumpView.{DumpView}
use Rattle.prepared_runs.specs.Source.{SourceView, if_known, dump_of_design}
use Rattle.prepared_runs.specs.Prepared.{RunView, run_of_source}
use Rattle.prepared_runs.specs.Viewed.{ShowsValues}

-- ---- the states of a run

-- the state that a run reaches by its events
abbrev pub state_after_events : RunView → State
state_after_events run = steps (started run.design.circuit (run.horizon + 1)) run.events

-- its kernel then
abbrev pub kernel_after_events : RunView → KernelView
kernel_after_events run = record (fresh run.design.circuit (run.horizon + 1)) { state = state_after_events run }

-- how many ticks are known of every net then
abbrev pub known_after_events : RunView → ℕ
known_after_events run = least_frontier (run.horizon + 1) (state_after_events run)

-- the state in which a run ends: rounds follow the events until it is complete, and never more than the most that a run needs
abbrev pub completed_run : RunView → State
completed_run run = completed_within (most_rounds (run.horizon + 1) run.design.circuit) (state_after_events run)

-- a run ends complete: its last state is, so that each net is known at every tick up to the horizon
pub record IsCompleted (run : RunView) : Type 0 where
  pub complete : IsComplete (completed_run run)
  pub known : (net : ℕ) → net < length run.design.circuit → frontier_at (completed_run run) net ≡ run.horizon + 1

-- ---- what it reports

-- what is reported if the events lead to this state: of it, and of the rounds that complete it
abbrev pub report_from : ℕ → Circuit → State → Report
report_from end circuit state = record {
  after = state.counts;
  least = least_frontier end state;
  total = (completed_within (most_rounds end circuit) state).counts;
}

-- what a run reports
unfoldable pub report_of : RunView → Report
report_of run = report_from (run.horizon + 1) run.design.circuit (state_after_events run)

-- the answer to a source: the dump and the report, or the first fault
unfoldable pub simulated : SourceView → DumpView → Result (List ℕ × Report) SimFault
simulated source view = do
  run ← run_of_source source view.horizon
  if_known view.show run.design.netlist (dump_of_design view run.horizon run.design, report_of run)

-- the dump of such an answer
abbrev pub dump_in : {F : Type 0} → Result (List ℕ × Report) F → Result (List ℕ) F
dump_in answer = result_map_both (λ (done : List ℕ × Report). done.0) (λ fault. fault) answer

-- each net is known to the end of the run
abbrev pub IsKnown : KernelView → Type 0
IsKnown run = (net : ℕ) → net < length run.circuit → frontier_at run.state net ≡ run.end

-- ---- how a call that runs a source ends

-- a writer that was empty then holds a dump that shows the values of the run that a source makes
abbrev pub ShowsRun : SourceView → DumpView → Option (List ℕ) → Option (List ℕ) → Type 0
ShowsRun source view old new =
    old ≡ Some [] → IfSome new (λ text. IsOkAnd (run_of_source source view.horizon) (λ run. ShowsValues view run.design text))

-- the run that a source makes ends complete: each net is known up to the horizon
abbrev pub EndsComplete : SourceView → ℕ → Type 0
EndsComplete source horizon = IsOkAnd (run_of_source source horizon) IsCompleted

-- that run took at most as many rounds as least delays are needed to cover all its ticks
abbrev pub TakesFewRounds : SourceView → ℕ → Report → Type 0
TakesFewRounds source horizon report =
    IsOkAnd (run_of_source source horizon) (λ run. report.total.rounds ≤ most_rounds (run.horizon + 1) run.design.circuit)
