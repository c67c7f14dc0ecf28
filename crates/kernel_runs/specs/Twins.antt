-- Two runs to one horizon, and what they show of one net.
use Rattle.std.specs.Prelude.{◌≡◌, ℕ, ◌+◌, ◌≤◌, ◌↔◌, IsTrue, List, [], ◌∷◌, length, Result, Ok, Err, All}
use Rattle.logic3.specs.Wave.{wave_of}
use Rattle.texts.specs.Text.{◌>>=◌}
use Rattle.design.specs.Design.{IsDesign}
use Rattle.design.specs.Equations.{value_of}
use Rattle.cmb_events.specs.Schedule.{most_events, Exists}
use Rattle.fanin_cone.specs.Agreement.{AgreesOn}
use Rattle.fanin_cone.specs.Cone.{InCone}
use Rattle.prepared_runs.specs.declared.fault.SimFault.{SimFault}
use Rattle.prepared_runs.specs.declared.fault.SimFault.TheVariants.{Dump, Memory}
use Rattle.prepared_runs.specs.declared.preparation.PreparedRun.{PreparedRun}
use Rattle.wave_diff.specs.declared.comparison.Side.{Side}
use Rattle.wave_diff.specs.declared.comparison.Side.TheVariants.{First, Second}
use Rattle.kernel_runs.specs.declared.twin_run.TwinAnswer.{TwinAnswer}
use Rattle.kernel_runs.specs.declared.twin_run.TwinFault.{TwinFault}
use Rattle.prepared_runs.specs.Source.{SourceView, net_or_unknown, or_fault}
use Rattle.prepared_runs.specs.Prepared.{RunView, run_of_source}

-- the fault of a side
abbrev pub on : Side → SimFault → TwinFault
on side fault = record { side = side; fault = fault }

-- two runs, and the number that the net of a name has in each
pub record Twins : Type 0 where
  pub first : RunView
  pub second : RunView
  pub net : ℕ
  pub other_net : ℕ

-- the numbers of a net in two runs, or the first of them that has no net of the name
unfoldable pub twins_in : RunView → RunView → List ℕ → Result Twins TwinFault
twins_in one other name = do
  net ← or_fault (on First) (net_or_unknown one.design name)
  other_net ← or_fault (on Second) (net_or_unknown other.design name)
  Ok (record { first = one; second = other; net = net; other_net = other_net })

-- that of the runs of two sources, or the first fault: the first source comes before the second, and the sources before the name
unfoldable pub twins_of : SourceView → SourceView → List ℕ → ℕ → Result Twins TwinFault
twins_of first second name horizon = do
  one ← or_fault (on First) (run_of_source first horizon)
  other ← or_fault (on Second) (run_of_source second horizon)
  twins_in one other name

-- whether the runs agree on the fan-in cone of the net, and what its equations give it in both, up to the horizon
pub record IsComparison (twins : Twins) (name : List ℕ) (horizon : ℕ) (answer : TwinAnswer) : Type 0 where
  pub agree : IsTrue answer.agree
      ↔ AgreesOn twins.first.design twins.second.design (InCone twins.first.design.netlist (name ∷ [])) horizon
  pub first : answer.first ≡ wave_of (value_of twins.first.design.circuit twins.net) 0 (horizon + 1)
  pub second : answer.second ≡ wave_of (value_of twins.second.design.circuit twins.other_net) 0 (horizon + 1)

-- before a byte is written: the fault is the answer, unless an allocation failed
abbrev pub IsTwinRefusal : {A : Type 0} → Result A TwinFault → TwinFault → Type 0
IsTwinRefusal answer fault = refused fault.side fault.fault
  where
    refused : Side → SimFault → Type 0
    refused side (Dump fault) = ⊥
    refused side Memory = Unit {0}
    refused side fault = answer ≡ Err (on side fault)

-- two prepared runs that can be compared: both can run, to one horizon
pub record CanCompare (one other : PreparedRun) : Type 0 where
  pub first : IsDesign one.design
  pub second : IsDesign other.design
  pub first_exist : All (Exists one.design.circuit) one.schedule
  pub second_exist : All (Exists other.design.circuit) other.schedule
  pub first_few : length one.schedule ≤ most_events
  pub second_few : length other.schedule ≤ most_events
  pub horizon : other.horizon ≡ one.horizon
