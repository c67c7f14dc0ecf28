-- The answer to an order, from the texts that were read.
use Rattle.std.proofs.Common.{◌≡◌, ℕ, Bool, List, map, Option, Some, None, Result, IfSome, Bor, Vec, unwrap_or, refl, ap, subst, ◌∙◌}
use Rattle.std.specs.declared.alloc.Global.{Global}
use Rattle.std.specs.Result.{result_map_both}
use Rattle.netlist.specs.Names.{seen_names}
use Rattle.drawn_stimuli.specs.declared.drive.Draws.{Draws}
use Rattle.drawn_stimuli.specs.declared.drive.Driven.{Driven}
use Rattle.drawn_stimuli.specs.Given.{seen_drive}
use Rattle.timing_diagram.specs.declared.form.Form.{Form}
use Rattle.prepared_runs.specs.declared.view.DiagramView.{DiagramView}
use Rattle.prepared_runs.specs.declared.view.Selection.{Selection}
use Rattle.wave_diff.specs.declared.diff_ticks.DiffTicks.{DiffTicks}
use Rattle.prepared_runs.specs.declared.view.DumpView.{DumpView}
use Rattle.event_trace.specs.declared.trace_view.TraceView.{TraceView}
use Rattle.kernel_runs.specs.Checked.{checked}
use Rattle.fanin_cone.specs.declared.fault.ConeTextFault.{ConeTextFault}
use Rattle.fanin_cone.specs.ConeText.{IsConeAnswer}
use Rattle.kernel_runs.specs.Diffs.{pair_of}
use Rattle.prepared_runs.specs.Source.{SourceView, design_of_source}
use Rattle.kernel_runs.specs.Twins.{twins_of}
use Rattle.command_line.specs.declared.order.Order.{Order}
use Rattle.command_line.specs.declared.order.Order.TheVariants as orders
use Rattle.program_io.specs.declared.order_texts.OrderTexts.{OrderTexts}
use Rattle.command_line.specs.declared.source_options.PickOptions.{PickOptions}
use Rattle.command_line.specs.declared.source_options.PickOptions.TheVariants.{Nothing, File, Seeded}
use Rattle.command_line.specs.declared.source_options.SourceOptions.{SourceOptions}
use Rattle.program_io.specs.declared.program_fault.ProgramFault.{ProgramFault}
use Rattle.command_line.specs.Sources.{ReadTexts, files_of_options, picks_of_options, schedule_file, source_from}
use Rattle.kernel_runs.specs.AnswerText.{check_text}
use Rattle.program_io.specs.Options.{IsRead, IsSourceOf, KnownTexts, ReadsFiles, ReadsOrder, text_named}
use Rattle.program_io.specs.Answers.{Answer, IsAnswerOfCone, IsAnswerOfDiff, IsAnswerOfInfo, IsAnswerOfTwin, IsDiffAnswer, IsInfoAnswer, IsTwinAnswer, answered, check_answer, diagram_answer, frontiers_answer, just, plain_answer, run_answer, stimuli_answer, trace_answer, why_answer, with_counts}
use Rattle.program_io.specs.ProgramFaults.{fault_of_diagram, fault_of_driven}
use Rattle.program_io.specs.OrderAnswer.{ForSource, IsAnswer, IsAnswerTo}
use Rattle.program_io.proofs.Cut.{cut, cut_picks, cut_source, design_of_source-cut, diagram_of_source-cut, dump_of_source-cut, frontiers_of_source-cut, netlist_of-cut, pair_of-cut, run_of_source-cut, simulated-cut, shown_trace_of_source-cut, stimuli_of_drives-cut, twins_of-cut, why_of_source-cut}

pub unwrap_or-known : (known : Option (List ℕ)) (other : List ℕ) → IfSome known (λ all. unwrap_or known other ≡ all)
unwrap_or-known None other = tt
unwrap_or-known (Some all) other = refl

-- the known texts, and those that were read where they are not known
module _ (known : KnownTexts) (options : SourceOptions) (texts : ReadTexts) where
  abbrev schedule_with : List ℕ
  schedule_with = unwrap_or (text_named known (schedule_file options.picks)) texts.schedule.items

  abbrev source_with : SourceView
  source_with = record {
    bench = unwrap_or (known options.bench.now) texts.bench.items;
    delays = unwrap_or (text_named known options.delays) texts.delays.items;
    stimuli = unwrap_or (text_named known options.stimuli) texts.stimuli.items;
    default_delay = options.delay;
    period = options.period;
    picks = picks_of_options options.picks schedule_with;
  }

  IsSourceOf-source_with : IsSourceOf known options source_with
  IsSourceOf-source_with = record {
    schedule = schedule_with;
    bench = unwrap_or-known (known options.bench.now) texts.bench.items;
    delays = unwrap_or-known (text_named known options.delays) texts.delays.items;
    stimuli = unwrap_or-known (text_named known options.stimuli) texts.stimuli.items;
    scheduled = unwrap_or-known (text_named known (schedule_file options.picks)) texts.schedule.items;
    delay = refl;
    period = refl;
    picks = refl;
  }

picks_of_options-cut : (options : PickOptions) (schedule : List ℕ) → picks_of_options options (cut schedule) ≡ cut_picks (picks_of_options options schedule)
picks_of_options-cut Nothing schedule = refl
picks_of_options-cut (File name) schedule = refl
picks_of_options-cut (Seeded seed picks) schedule = refl

source_from-read : (known : KnownTexts) (options : SourceOptions) (texts : ReadTexts) → ReadsFiles known (files_of_options options) texts →
    source_from options texts ≡ cut_source (source_with known options texts)
source_from-read known options texts read =
    let picks : picks_of_options options.picks texts.schedule.items ≡ cut_picks (picks_of_options options.picks (schedule_with known options texts)) =
    ap (picks_of_options options.picks) read.schedule ∙ picks_of_options-cut options.picks (schedule_with known options texts) in
    λ i. record {
      bench = read.bench i;
      delays = read.delays i;
      stimuli = read.stimuli i;
      default_delay = options.delay;
      period = options.period;
      picks = picks i;
    }

-- the source that was read is the cut of a source of the options
module _ (known : KnownTexts) (options : SourceOptions) (texts : ReadTexts) (read : ReadsFiles known (files_of_options options) texts) where
  abbrev seen : SourceView
  seen = source_from options texts

  ForSource-read : (P : SourceView → Type 0) → ((source : SourceView) → seen ≡ cut_source source → P source) → ForSource known options P
  ForSource-read P holds =
      let source = source_with known options texts in
      (source, IsSourceOf-source_with known options texts, holds source (source_from-read known options texts read))

  IsAnswer-plain : (view : DumpView) (answer : Result Answer ProgramFault) → answer ≡ plain_answer seen view → IsAnswer known (orders.Plain options view) answer
  IsAnswer-plain view answer same =
      ForSource-read _ (λ source is_cut. same ∙ ap (λ s. plain_answer s view) is_cut ∙ ap (answered just) (dump_of_source-cut source view))

  IsAnswer-diagram : (view : DiagramView) (form : Form) (answer : Result Answer ProgramFault) → answer ≡ diagram_answer seen view form →
      IsAnswer known (orders.Draw options view form) answer
  IsAnswer-diagram view form answer same =
      ForSource-read _ (λ source is_cut. same ∙ ap (λ s. diagram_answer s view form) is_cut ∙ ap (result_map_both just fault_of_diagram) (diagram_of_source-cut source view form))

  IsAnswer-trace : (horizon : ℕ) (idle : Bool) (net : Option (Bor (List ℕ))) (answer : Result Answer ProgramFault) →
      answer ≡ trace_answer seen horizon (record { idle = idle; net = net }) → IsAnswer known (orders.Trace options horizon idle net) answer
  IsAnswer-trace horizon idle net answer same =
      let view : TraceView = record { idle = idle; net = net } in
      ForSource-read _
      (λ source is_cut. same ∙ ap (λ s. trace_answer s horizon view) is_cut ∙ ap (answered just) (shown_trace_of_source-cut source horizon view))

  IsAnswer-frontiers : (horizon : ℕ) (show : Selection) (answer : Result Answer ProgramFault) → answer ≡ frontiers_answer seen horizon show →
      IsAnswer known (orders.Frontiers options horizon show) answer
  IsAnswer-frontiers horizon show answer same =
      ForSource-read _
      (λ source is_cut. same ∙ ap (λ s. frontiers_answer s horizon show) is_cut ∙ ap (answered just) (frontiers_of_source-cut source horizon show))

  IsAnswer-why : (net : Bor (List ℕ)) (tick : ℕ) (answer : Result Answer ProgramFault) → answer ≡ why_answer seen net.now tick →
      IsAnswer known (orders.Why options net tick) answer
  IsAnswer-why net tick answer same =
      ForSource-read _ (λ source is_cut. same ∙ ap (λ s. why_answer s net.now tick) is_cut ∙ ap (answered just) (why_of_source-cut source net.now tick))

  IsAnswer-run : (view : DumpView) (counts : Bool) (answer : Result Answer ProgramFault) → answer ≡ run_answer seen view counts →
      IsAnswer known (orders.Run options view counts) answer
  IsAnswer-run view counts answer same =
      ForSource-read _ (λ source is_cut. same ∙ ap (λ s. run_answer s view counts) is_cut ∙ ap (answered (with_counts counts)) (simulated-cut source view))

  IsAnswer-check : (horizon : ℕ) (answer : Result Answer ProgramFault) → answer ≡ check_answer seen horizon → IsAnswer known (orders.Check options horizon) answer
  IsAnswer-check horizon answer same =
      ForSource-read _
      (λ source is_cut. same ∙ ap (λ s. check_answer s horizon) is_cut
      ∙ ap (answered (λ run. just (check_text (checked run)))) (run_of_source-cut source horizon))

  IsAnswer-info : (answer : Result Answer ProgramFault) → IsAnswerOfInfo seen answer → IsAnswer known (orders.Info options) answer
  IsAnswer-info answer holds =
      ForSource-read _
      (λ source is_cut. subst (λ made. IsInfoAnswer made answer) (ap (λ s. design_of_source s 0) is_cut ∙ design_of_source-cut source 0) holds)

-- so are the two sources of a comparison
module _ (known : KnownTexts) (first second : SourceOptions) (one other : ReadTexts) (read : ReadsFiles known (files_of_options first) one)
    (other_read : ReadsFiles known (files_of_options second) other) where
  IsAnswer-twin : (net : Bor (List ℕ)) (horizon : ℕ) (answer : Result Answer ProgramFault) →
      IsAnswerOfTwin (source_from first one) (source_from second other) net.now horizon answer → IsAnswer known (orders.Twin first second net horizon) answer
  IsAnswer-twin net horizon answer holds =
      ForSource-read known first one read _ (λ source is_cut.
      ForSource-read known second other other_read _ (λ other_source other_is_cut.
      subst (λ twins. IsTwinAnswer twins net.now horizon answer)
      (ap (λ s. twins_of s (source_from second other) net.now horizon) is_cut
      ∙ ap (λ s. twins_of (cut_source source) s net.now horizon) other_is_cut
      ∙ twins_of-cut source other_source net.now horizon)
      holds))

  -- net by net
  IsAnswer-diff : (names : Vec (Bor (List ℕ)) Global) (ticks : DiffTicks) (answer : Result Answer ProgramFault) →
      IsAnswerOfDiff (source_from first one) (source_from second other) (seen_names names.items) ticks answer →
      IsAnswer known (orders.Diff first second names ticks) answer
  IsAnswer-diff names ticks answer holds =
      ForSource-read known first one read _ (λ source is_cut.
      ForSource-read known second other other_read _ (λ other_source other_is_cut.
      subst (λ made. IsDiffAnswer made answer)
      (ap (λ s. pair_of s (source_from second other) (seen_names names.items) ticks) is_cut
      ∙ ap (λ s. pair_of (cut_source source) s (seen_names names.items) ticks) other_is_cut
      ∙ pair_of-cut source other_source (seen_names names.items) ticks)
      holds))

-- the answer to the cut text is that to the whole
IsConeAnswer-cut : (text : List ℕ) (names : List (List ℕ)) (answer : Result (List ℕ) ConeTextFault) → IsConeAnswer (cut text) names answer →
    IsConeAnswer text names answer
IsConeAnswer-cut text names answer is = rw (← netlist_of-cut text) is

-- the answer to the netlist that was read is that to the order
IsAnswer-cone : (known : KnownTexts) (bench : Bor (List ℕ)) (names : Vec (Bor (List ℕ)) Global) (read : List ℕ) → IsRead (known bench.now) read →
    (answer : Result Answer ProgramFault) → IsAnswerOfCone read (seen_names names.items) answer → IsAnswer known (orders.Cone bench names) answer
IsAnswer-cone known bench names read is_read answer (found, is, same) =
    let text = unwrap_or (known bench.now) read in
    let of_cut : IsConeAnswer (cut text) (seen_names names.items) found =
    subst (λ (t : List ℕ). IsConeAnswer t (seen_names names.items) found) is_read is in
    (text, unwrap_or-known (known bench.now) read, (found, IsConeAnswer-cut text (seen_names names.items) found of_cut, same))

-- the stimulus text of the netlist that was read is the answer to the order
IsAnswer-stimuli : (known : KnownTexts) (bench : Bor (List ℕ)) (drives : Vec Driven Global) (draws : Draws) (horizon : ℕ) (read : List ℕ) →
    IsRead (known bench.now) read → (answer : Result Answer ProgramFault) → answer ≡ stimuli_answer read (map seen_drive drives.items) draws horizon →
    IsAnswer known (orders.Stimuli bench drives draws horizon) answer
IsAnswer-stimuli known bench drives draws horizon read is_read answer same =
    let text = unwrap_or (known bench.now) read in (
      text,
      unwrap_or-known (known bench.now) read,
      same ∙ ap (λ t. stimuli_answer t (map seen_drive drives.items) draws horizon) is_read
          ∙ ap (result_map_both just fault_of_driven) (stimuli_of_drives-cut text (map seen_drive drives.items) draws horizon),
    )

-- the answer over the texts that were read is that to the order
pub IsAnswer-read : (known : KnownTexts) (order : Order) (texts : OrderTexts) → ReadsOrder known order texts →
    (answer : Result Answer ProgramFault) → IsAnswerTo order texts answer → IsAnswer known order answer
IsAnswer-read known (orders.Run options view counts) texts (one, other) answer is = IsAnswer-run known options texts.first one view counts answer is
IsAnswer-read known (orders.Plain options view) texts (one, other) answer is = IsAnswer-plain known options texts.first one view answer is
IsAnswer-read known (orders.Draw options view form) texts (one, other) answer is = IsAnswer-diagram known options texts.first one view form answer is
IsAnswer-read known (orders.Trace options horizon idle net) texts (one, other) answer is =
    IsAnswer-trace known options texts.first one horizon idle net answer is
IsAnswer-read known (orders.Frontiers options horizon show) texts (one, other) answer is =
    IsAnswer-frontiers known options texts.first one horizon show answer is
IsAnswer-read known (orders.Why options net tick) texts (one, other) answer is = IsAnswer-why known options texts.first one net tick answer is
IsAnswer-read known (orders.Check options horizon) texts (one, other) answer is = IsAnswer-check known options texts.first one horizon answer is
IsAnswer-read known (orders.Twin first second net horizon) texts (one, other) answer is =
    IsAnswer-twin known first second texts.first texts.second one other net horizon answer is
IsAnswer-read known (orders.Diff first second names ticks) texts (one, other) answer is =
    IsAnswer-diff known first second texts.first texts.second one other names ticks answer is
IsAnswer-read known (orders.Info options) texts (one, other) answer is = IsAnswer-info known options texts.first one answer is
IsAnswer-read known (orders.Cone bench names) texts (one, other) answer is = IsAnswer-cone known bench names texts.first.bench.items one.bench answer is
IsAnswer-read known (orders.Stimuli bench drives draws horizon) texts (one, other) answer is =
    IsAnswer-stimuli known bench drives draws horizon texts.first.bench.items one.bench answer is
