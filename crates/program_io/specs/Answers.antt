-- The answers to texts: what is written for a run, a cone, a comparison or a check, and how that ends.
use Rattle.std.specs.Prelude.{◌≡◌, ℕ, Bool, List, true, false, Option, Result, Ok, Err, IsOkAnd}
use Rattle.std.specs.Result.{result_map_both}
use Rattle.std.specs.Io.KnownBytes.{Appends}
use Rattle.cmb_kernel.specs.declared.counts.Counts.{Counts}
use Rattle.prepared_runs.specs.declared.view.DiagramView.{DiagramView}
use Rattle.prepared_runs.specs.declared.view.Selection.{Selection}
use Rattle.prepared_runs.specs.declared.fault.SimFault.{SimFault}
use Rattle.kernel_runs.specs.declared.simulation.Report.{Report}
use Rattle.wave_diff.specs.declared.comparison.Side.TheVariants.{First}
use Rattle.kernel_runs.specs.declared.twin_run.TwinAnswer.{TwinAnswer}
use Rattle.kernel_runs.specs.declared.twin_run.TwinFault.{TwinFault}
use Rattle.prepared_runs.specs.declared.view.DumpView.{DumpView}
use Rattle.kernel_runs.specs.Checked.{checked}
use Rattle.fanin_cone.specs.declared.fault.ConeTextFault.{ConeTextFault}
use Rattle.fanin_cone.specs.ConeText.{IsConeAnswer}
use Rattle.drawn_stimuli.specs.declared.drive.Draws.{Draws}
use Rattle.drawn_stimuli.specs.Given.{DriveView}
use Rattle.plain_runs.specs.Drawn.{diagram_of_source}
use Rattle.timing_diagram.specs.declared.form.Form.{Form}
use Rattle.drawn_stimuli.specs.Driven.{stimuli_of_drives}
use Rattle.kernel_runs.specs.declared.diff_fault.DiffFault.{DiffFault}
use Rattle.wave_diff.specs.declared.diff_ticks.DiffTicks.{DiffTicks}
use Rattle.kernel_runs.specs.Diffs.{IsDiff, Pair, pair_of}
use Rattle.kernel_runs.specs.Explained.{why_of_source}
use Rattle.circuit_info.specs.InfoText.{IsInfoOf}
use Rattle.design.specs.Design.{DesignView}
use Rattle.event_trace.specs.declared.trace_view.TraceView.{TraceView}
use Rattle.event_trace.specs.Frontiers.{frontiers_of_source}
use Rattle.event_trace.specs.Traced.{shown_trace_of_source}
use Rattle.prepared_runs.specs.Prepared.{run_of_source}
use Rattle.kernel_runs.specs.Simulated.{simulated}
use Rattle.prepared_runs.specs.Source.{SourceView, design_of_source, dump_of_source}
use Rattle.kernel_runs.specs.Twins.{IsComparison, Twins, twins_of}
use Rattle.program_io.specs.declared.outcome.Outcome.{Outcome}
use Rattle.program_io.specs.declared.outcome.Outcome.TheVariants.{Done, Counted, Differing}
use Rattle.program_io.specs.declared.program_fault.ProgramFault.{ProgramFault}
use Rattle.program_io.specs.declared.program_fault.ProgramFault.TheVariants.{Read}
use Rattle.kernel_runs.specs.AnswerText.{check_text, twin_text}
use Rattle.program_io.specs.Ends.{ForAnswer, ProgramEndsBy}
use Rattle.program_io.specs.ProgramFaults.{fault_of_cone, fault_of_diagram, fault_of_diff, fault_of_driven, fault_of_run, fault_of_twin}

-- what is written, and its outcome
pub record Answer : Type 0 where
  pub text : List ℕ
  pub outcome : Outcome

-- a text alone
abbrev pub just : List ℕ → Answer
just text = record { text = text; outcome = Done }

-- counts, if they are requested
abbrev pub counted : Bool → Counts → Outcome
counted true total = Counted total
counted false total = Done

-- the dump of a run, and its counts at the end if they are requested
abbrev pub with_counts : Bool → List ℕ × Report → Answer
with_counts counts done = record { text = done.0; outcome = counted counts (done.1).total }

-- the dump of a run was written, and that is its outcome
abbrev pub DumpsAndCounts : Bool → Result (List ℕ × Report) SimFault → Option (List ℕ) → Option (List ℕ) → Outcome → Type 0
DumpsAndCounts counts run old new outcome = IsOkAnd run (λ done. Appends old new done.0 × (outcome ≡ counted counts (done.1).total))

-- the answer of the only run
abbrev pub answered : {A : Type 0} → (A → Answer) → Result A SimFault → Result Answer ProgramFault
answered answer_of result = result_map_both answer_of (fault_of_run First) result

-- ---- the answer to texts, or the first fault

-- the dump of a run by the kernel
abbrev pub run_answer : SourceView → DumpView → Bool → Result Answer ProgramFault
run_answer source view counts = answered (with_counts counts) (simulated source view)

-- the dump of a run by the plain engine
abbrev pub plain_answer : SourceView → DumpView → Result Answer ProgramFault
plain_answer source view = answered just (dump_of_source source view)

-- the timing diagram of a run
abbrev pub diagram_answer : SourceView → DiagramView → Form → Result Answer ProgramFault
diagram_answer source view form = result_map_both just fault_of_diagram (diagram_of_source source view form)

-- the trace of a run, with the lines that a view shows
abbrev pub trace_answer : SourceView → ℕ → TraceView → Result Answer ProgramFault
trace_answer source horizon view = answered just (shown_trace_of_source source horizon view)

-- the table of the frontiers of shown nets by rounds
abbrev pub frontiers_answer : SourceView → ℕ → Selection → Result Answer ProgramFault
frontiers_answer source horizon show = answered just (frontiers_of_source source horizon show)

-- why the net with this name has its value at a tick
abbrev pub why_answer : SourceView → List ℕ → ℕ → Result Answer ProgramFault
why_answer source name tick = answered just (why_of_source source name tick)

-- the stimulus text of a netlist's inputs
abbrev pub stimuli_answer : List ℕ → List DriveView → Draws → ℕ → Result Answer ProgramFault
stimuli_answer bench drives draws horizon = result_map_both just fault_of_driven (stimuli_of_drives bench drives draws horizon)

-- the lines of a check
abbrev pub check_answer : SourceView → ℕ → Result Answer ProgramFault
check_answer source horizon = answered (λ run. just (check_text (checked run))) (run_of_source source horizon)

-- a netlist of the nets in the cones of these names
abbrev pub IsAnswerOfCone : List ℕ → List (List ℕ) → Result Answer ProgramFault → Type 0
IsAnswerOfCone bench names answer = (found : Result (List ℕ) ConeTextFault) × IsConeAnswer bench names found × (answer ≡ result_map_both just fault_of_cone found)

-- the description of a design, or the fault in its place
abbrev pub IsInfoAnswer : Result (ℕ × DesignView) SimFault → Result Answer ProgramFault → Type 0
IsInfoAnswer (Ok ready) answer = (text : List ℕ) × IsInfoOf ready.1 text × (answer ≡ Ok (just text))
IsInfoAnswer (Err fault) answer = answer ≡ Err (fault_of_run First fault)

-- that of the design of a source
abbrev pub IsAnswerOfInfo : SourceView → Result Answer ProgramFault → Type 0
IsAnswerOfInfo source = IsInfoAnswer (design_of_source source 0)

-- the lines of a comparison, or the fault of one side
abbrev pub IsTwinAnswer : Result Twins TwinFault → List ℕ → ℕ → Result Answer ProgramFault → Type 0
IsTwinAnswer (Ok twins) name horizon answer =
    (comparison : TwinAnswer) × IsComparison twins name horizon comparison × (answer ≡ Ok (just (twin_text comparison)))
IsTwinAnswer (Err fault) name horizon answer = answer ≡ Err (fault_of_twin fault)

-- that of two runs
abbrev pub IsAnswerOfTwin : SourceView → SourceView → List ℕ → ℕ → Result Answer ProgramFault → Type 0
IsAnswerOfTwin first second name horizon = IsTwinAnswer (twins_of first second name horizon) name horizon

-- the same, with something else
abbrev pub outcome_of : Bool → Outcome
outcome_of true = Done
outcome_of false = Differing

-- the lines of a comparison net by net, and whether all are the same
abbrev pub compared : List ℕ → Bool → Answer
compared text same = record { text = text; outcome = outcome_of same }

-- those of two runs that can be compared, or the fault of one side
abbrev pub IsDiffAnswer : Result Pair DiffFault → Result Answer ProgramFault → Type 0
IsDiffAnswer (Ok pair) answer = (text : List ℕ) × ((same : Bool) × IsDiff pair text same × (answer ≡ Ok (compared text same)))
IsDiffAnswer (Err fault) answer = answer ≡ Err (fault_of_diff fault)

-- those of two sources
abbrev pub IsAnswerOfDiff : SourceView → SourceView → List (List ℕ) → DiffTicks → Result Answer ProgramFault → Type 0
IsAnswerOfDiff first second names ticks = IsDiffAnswer (pair_of first second names ticks)

-- ---- how it ends

-- exactly such an answer was written, and its outcome is returned
abbrev pub GoesOut : (Result Answer ProgramFault → Type 0) → Option (List ℕ) → Option (List ℕ) → Outcome → Type 0
GoesOut IsAnswer old new outcome = ForAnswer IsAnswer (λ answer. Appends old new answer.text × (outcome ≡ answer.outcome))

abbrev pub AnswerEndsBy : (Result Answer ProgramFault → Type 0) → Option (List ℕ) → Option (List ℕ) → ProgramFault → Type 0
AnswerEndsBy IsAnswer = ProgramEndsBy (λ (answer : Answer). answer.text) IsAnswer

-- a fault after all texts were read
abbrev pub IsNoRead : ProgramFault → Type 0
IsNoRead (Read name) = ⊥
IsNoRead fault = Unit {0}
