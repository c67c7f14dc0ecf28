-- What runs show for one net, whatever else they contain.
use Rattle.std.specs.Prelude.{◌≡◌, ℕ, ◌+◌, ◌≤◌, IsTrue, List, [], ◌∷◌, Contains, Some, Ok, IsOkAnd}
use Rattle.logic3.specs.declared.value.Value.{Value}
use Rattle.netlist.specs.Netlist.{net_named}
use Rattle.cmb_kernel.specs.State.{most_rounds}
use Rattle.fanin_cone.specs.Agreement.{AgreesOn}
use Rattle.fanin_cone.specs.Cone.{InCone}
use Rattle.vcd_dump.specs.Shown.{shown_value}
use Rattle.kernel_runs.specs.declared.simulation.Report.{Report}
use Rattle.prepared_runs.specs.declared.view.DumpView.{DumpView}
use Rattle.prepared_runs.specs.Prepared.{RunView, run_of_source}
use Rattle.kernel_runs.specs.Simulated.{completed_run, simulated, IsCompleted}
use Rattle.prepared_runs.specs.Source.{SourceView, knows_shown, shown_nets}

-- an accepted input, and the run that it makes, which has each net to be shown
pub record AcceptedRun : Type 0 where
  pub source : SourceView
  pub view : DumpView
  pub run : RunView
  pub accepted : run_of_source source view.horizon ≡ Ok run
  pub known : IsTrue (knows_shown view.show run.design.netlist)

-- the net of this name has this number, and is shown
pub record IsShown (run : AcceptedRun) (name : List ℕ) (net : ℕ) : Type 0 where
  pub number : net_named run.run.design.netlist name ≡ Some net
  pub shown : Contains (shown_nets run.view.show run.run.design.netlist) net

-- runs to one horizon that agree on the fan-in cone that the net of a name has in the first of them: its parts, pins,
-- delays, clocks, initial values and stimuli up to the horizon; and both show the net, which has these numbers
pub record AgreeingRuns (first second : AcceptedRun) (name : List ℕ) (net other_net : ℕ) : Type 0 where
  pub horizon : first.view.horizon ≡ second.view.horizon
  pub agree : AgreesOn first.run.design second.run.design (InCone first.run.design.netlist (name ∷ [])) first.view.horizon
  pub first_shown : IsShown first name net
  pub second_shown : IsShown second name other_net

-- the run ends complete, within as many rounds as least delays are needed to cover all its ticks; what it reports in total
-- are the counts of its last state; and its dump shows this signal for the name, at every tick to the horizon
pub record ShowsSignal (run : AcceptedRun) (name : List ℕ) (signal : ℕ → Value) (answer : List ℕ × Report) : Type 0 where
  pub complete : IsCompleted run.run
  pub counts : (answer.1).total ≡ (completed_run run.run).counts
  pub rounds : (answer.1).total.rounds ≤ most_rounds (run.run.horizon + 1) run.run.design.circuit
  pub shows : (tick : ℕ) → tick ≤ run.view.horizon → shown_value answer.0 name tick ≡ Some (signal tick)

-- the run ends, and shows this signal for the name
abbrev pub EndsShowing : AcceptedRun → List ℕ → (ℕ → Value) → Type 0
EndsShowing run name signal = IsOkAnd (simulated run.source run.view) (ShowsSignal run name signal)
