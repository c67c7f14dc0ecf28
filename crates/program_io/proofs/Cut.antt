-- A text too long to be read stays too long where it is cut behind the first byte too many, so the answer stays the same.
use Rattle.std.proofs.Common.{◌≡◌, ℕ, ◌+◌, ◌<◌, ◌≤◌, nat_lt, if◌then◌else◌, List, [], length, take, Result, Ok, Err, ◌⊎◌, inl, inr, refl, ap, ◌∙◌, arith, length-take}
use Rattle.std.proofs.lemmas.Bool.{cases_lt, lt-ltb}
use Rattle.std.proofs.lemmas.List.{take_all}
use Rattle.texts.specs.Text.{◌>>=◌, code_lines, longest_text}
use Rattle.texts.specs.Fold.{fold_text}
use Rattle.netlist.specs.Netlist.{NetlistView}
use Rattle.bench_text.specs.NetlistOf.{netlist_of, netlist_of_statements, statements_of}
use Rattle.bench_text.specs.declared.fault.BenchFault.{BenchFault}
use Rattle.bench_text.specs.declared.fault.BenchFault.TheVariants as bench
use Rattle.design.specs.declared.fault.BuildFault.{BuildFault}
use Rattle.timing_text.specs.declared.fault.DelayFault.TheVariants as delay
use Rattle.timing_text.specs.declared.fault.StimulusFault.TheVariants as stimulus
use Rattle.design.specs.Build.{design_of}
use Rattle.design.specs.Circuit.{Circuit}
use Rattle.design.specs.Design.{DesignView}
use Rattle.timing_text.specs.Options.{horizon_of, options_of}
use Rattle.timing_text.specs.Timings.{properties_in, properties_of}
use Rattle.timing_text.specs.Stimuli.{stimuli_after, stimuli_of}
use Rattle.cmb_events.specs.declared.event.Event.{Event}
use Rattle.cmb_events.specs.declared.schedule_fault.ScheduleFault.{ScheduleFault}
use Rattle.cmb_events.specs.declared.schedule_fault.ScheduleFault.TheVariants as schedule
use Rattle.cmb_events.specs.Schedule.{events_after, events_of}
use Rattle.prepared_runs.specs.declared.fault.SimFault.{SimFault}
use Rattle.prepared_runs.specs.declared.fault.SimFault.TheVariants.{Setting}
use Rattle.prepared_runs.specs.declared.view.DumpView.{DumpView}
use Rattle.prepared_runs.specs.declared.view.DiagramView.{DiagramView}
use Rattle.prepared_runs.specs.declared.view.Selection.{Selection}
use Rattle.drawn_stimuli.specs.declared.drive.Draws.{Draws}
use Rattle.drawn_stimuli.specs.Given.{DriveView}
use Rattle.wave_diff.specs.declared.diff_ticks.DiffTicks.{DiffTicks}
use Rattle.kernel_runs.specs.Diffs.{pair_of}
use Rattle.plain_runs.specs.Drawn.{diagram_of_source}
use Rattle.timing_diagram.specs.declared.form.Form.{Form}
use Rattle.drawn_stimuli.specs.Driven.{stimuli_of_drives}
use Rattle.kernel_runs.specs.Explained.{why_of_source}
use Rattle.event_trace.specs.declared.trace_view.TraceView.{TraceView}
use Rattle.event_trace.specs.Frontiers.{frontiers_of_source}
use Rattle.event_trace.specs.Traced.{shown_trace_of_source}
use Rattle.prepared_runs.specs.Events.{PicksView, events_of_picks}
use Rattle.prepared_runs.specs.Events as picks
use Rattle.prepared_runs.specs.Faults.{sim_of_bench, sim_of_build, sim_of_schedule}
use Rattle.prepared_runs.specs.Source.{SourceView, design_of_source, dump_of_source, or_fault}
use Rattle.prepared_runs.specs.Prepared.{RunView, run_of_source}
use Rattle.kernel_runs.specs.Simulated.{simulated}
use Rattle.kernel_runs.specs.Twins.{twins_of}

-- the bytes that are read of a text
abbrev pub cut : List ℕ → List ℕ
cut text = take (longest_text + 1) text

-- whatever answers a too long text by a fault, and any other by some function
pub limited-cut : {A : Type 0} (fault : A) (f : List ℕ → A) (text : List ℕ) →
    (if nat_lt longest_text (length (cut text)) then fault else f (cut text)) ≡ (if nat_lt longest_text (length text) then fault else f text)
limited-cut {A = A} fault f text = go (cases_lt longest_text (length text))
  where
    go : (longest_text < length text) ⊎ (length text ≤ longest_text) →
        (if nat_lt longest_text (length (cut text)) then fault else f (cut text)) ≡ (if nat_lt longest_text (length text) then fault else f text)
    go (inl long) =
        let still : longest_text < length (cut text) = omega (arith, length-take (longest_text + 1) text) in
        rw (lt-ltb longest_text (length (cut text)) still, lt-ltb longest_text (length text) long) refl
    go (inr short) =
        let whole : cut text ≡ text = take_all (longest_text + 1) text (omega arith) in
        ap (λ t. if nat_lt longest_text (length t) then fault else f t) whole

pub netlist_of-cut : (text : List ℕ) → netlist_of (cut text) ≡ netlist_of text
netlist_of-cut text = limited-cut (Err bench.TooLong) (λ t. statements_of t >>= netlist_of_statements) text

properties_of-cut : (netlist : NetlistView) (text : List ℕ) → properties_of netlist (cut text) ≡ properties_of netlist text
properties_of-cut netlist text = limited-cut (Err delay.TooLong) (λ t. properties_in netlist (code_lines t)) text

stimuli_of-cut : (netlist : NetlistView) (text : List ℕ) → stimuli_of netlist (cut text) ≡ stimuli_of netlist text
stimuli_of-cut netlist text = limited-cut (Err stimulus.TooLong) (fold_text (stimuli_after netlist) []) text

design_of-cut : (netlist : NetlistView) (delays stimuli : List ℕ) (default period : ℕ) →
    design_of netlist (cut delays) (cut stimuli) default period ≡ design_of netlist delays stimuli default period
design_of-cut netlist delays stimuli default period = rw (properties_of-cut netlist delays, stimuli_of-cut netlist stimuli) refl

-- the horizon and the design, from what the texts give
abbrev design_by : SourceView → ℕ → Result NetlistView BenchFault → (NetlistView → Result DesignView BuildFault) → Result (ℕ × DesignView) SimFault
design_by source ticks read build = do
  settings ← or_fault Setting (options_of source.default_delay source.period)
  horizon ← or_fault Setting (horizon_of ticks)
  netlist ← or_fault sim_of_bench read
  design ← or_fault sim_of_build (build netlist)
  Ok (horizon, design)

events_of-cut : (circuit : Circuit) (text : List ℕ) → events_of circuit (cut text) ≡ events_of circuit text
events_of-cut circuit text = limited-cut (Err schedule.TooLong) (fold_text (events_after circuit) []) text

abbrev pub cut_picks : PicksView → PicksView
cut_picks (picks.text bytes) = picks.text (cut bytes)
cut_picks other = other

events_of_picks-cut : (circuit : Circuit) (source : PicksView) → events_of_picks circuit (cut_picks source) ≡ events_of_picks circuit source
unfolding events_of_picks
events_of_picks-cut circuit (picks.text bytes) = events_of-cut circuit bytes
events_of_picks-cut circuit picks.nothing = refl
events_of_picks-cut circuit (picks.seeded seed count) = refl

-- ---- the texts of a source

abbrev pub cut_source : SourceView → SourceView
cut_source source = record source {
  bench = cut source.bench;
  delays = cut source.delays;
  stimuli = cut source.stimuli;
  picks = cut_picks source.picks;
}

pub design_of_source-cut : (source : SourceView) (ticks : ℕ) → design_of_source (cut_source source) ticks ≡ design_of_source source ticks
unfolding design_of_source
design_of_source-cut source ticks =
    let build : List ℕ → List ℕ → NetlistView → Result DesignView BuildFault =
    λ delays stimuli netlist. design_of netlist delays stimuli source.default_delay source.period in
    let builds : build (cut source.delays) (cut source.stimuli) ≡ build source.delays source.stimuli =
    λ i netlist. design_of-cut netlist source.delays source.stimuli source.default_delay source.period i in
    ap (λ read. design_by source ticks read (build (cut source.delays) (cut source.stimuli))) (netlist_of-cut source.bench)
    ∙ ap (design_by source ticks (netlist_of source.bench)) builds

pub dump_of_source-cut : (source : SourceView) (view : DumpView) → dump_of_source (cut_source source) view ≡ dump_of_source source view
unfolding dump_of_source
dump_of_source-cut source view = rw (design_of_source-cut source view.horizon) refl

pub diagram_of_source-cut : (source : SourceView) (view : DiagramView) (form : Form) →
    diagram_of_source (cut_source source) view form ≡ diagram_of_source source view form
unfolding diagram_of_source
diagram_of_source-cut source view form = rw (design_of_source-cut source view.horizon) refl

-- the run, from what the settings and texts give, and the picks
abbrev run_by : Result (ℕ × DesignView) SimFault → (Circuit → Result (List Event) ScheduleFault) → Result RunView SimFault
run_by made pick = do
  ready ← made
  events ← or_fault sim_of_schedule (pick (ready.1).circuit)
  Ok (record { horizon = ready.0; design = ready.1; events = events })

pub run_of_source-cut : (source : SourceView) (ticks : ℕ) → run_of_source (cut_source source) ticks ≡ run_of_source source ticks
unfolding run_of_source
run_of_source-cut source ticks =
    let picked : PicksView → Circuit → Result (List Event) ScheduleFault = λ from circuit. events_of_picks circuit from in
    let same : picked (cut_picks source.picks) ≡ picked source.picks = λ i circuit. events_of_picks-cut circuit source.picks i in
    ap (λ made. run_by made (picked (cut_picks source.picks))) (design_of_source-cut source ticks)
    ∙ ap (run_by (design_of_source source ticks)) same

pub simulated-cut : (source : SourceView) (view : DumpView) → simulated (cut_source source) view ≡ simulated source view
unfolding simulated
simulated-cut source view = rw (run_of_source-cut source view.horizon) refl

pub shown_trace_of_source-cut : (source : SourceView) (ticks : ℕ) (view : TraceView) →
    shown_trace_of_source (cut_source source) ticks view ≡ shown_trace_of_source source ticks view
unfolding shown_trace_of_source
shown_trace_of_source-cut source ticks view = rw (run_of_source-cut source ticks) refl

pub frontiers_of_source-cut : (source : SourceView) (ticks : ℕ) (show : Selection) →
    frontiers_of_source (cut_source source) ticks show ≡ frontiers_of_source source ticks show
unfolding frontiers_of_source
frontiers_of_source-cut source ticks show = rw (run_of_source-cut source ticks) refl

pub why_of_source-cut : (source : SourceView) (name : List ℕ) (tick : ℕ) → why_of_source (cut_source source) name tick ≡ why_of_source source name tick
unfolding why_of_source
why_of_source-cut source name tick = rw (design_of_source-cut source tick) refl

pub stimuli_of_drives-cut : (bench : List ℕ) (drives : List DriveView) (draws : Draws) (ticks : ℕ) →
    stimuli_of_drives (cut bench) drives draws ticks ≡ stimuli_of_drives bench drives draws ticks
unfolding stimuli_of_drives
stimuli_of_drives-cut bench drives draws ticks = rw (netlist_of-cut bench) refl

pub twins_of-cut : (first second : SourceView) (name : List ℕ) (horizon : ℕ) →
    twins_of (cut_source first) (cut_source second) name horizon ≡ twins_of first second name horizon
unfolding twins_of
twins_of-cut first second name horizon = rw (run_of_source-cut first horizon, run_of_source-cut second horizon) refl

pub pair_of-cut : (first second : SourceView) (names : List (List ℕ)) (ticks : DiffTicks) →
    pair_of (cut_source first) (cut_source second) names ticks ≡ pair_of first second names ticks
unfolding pair_of
pair_of-cut first second names ticks = rw (run_of_source-cut first ticks.horizon, run_of_source-cut second ticks.horizon) refl
