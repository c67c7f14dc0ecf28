-- The answer to an order.
use Rattle.std.specs.Prelude.{◌≡◌, ℕ, List, map, IfSome, Result}
use Rattle.netlist.specs.Names.{seen_names}
use Rattle.drawn_stimuli.specs.Given.{seen_drive}
use Rattle.prepared_runs.specs.Source.{SourceView}
use Rattle.program_io.specs.declared.program_fault.ProgramFault.{ProgramFault}
use Rattle.program_io.specs.Answers.{Answer, IsAnswerOfCone, IsAnswerOfDiff, IsAnswerOfInfo, IsAnswerOfTwin, check_answer, diagram_answer, frontiers_answer, plain_answer, run_answer, stimuli_answer, trace_answer, why_answer}
use Rattle.command_line.specs.declared.order.Order.{Order}
use Rattle.command_line.specs.declared.order.Order.TheVariants.{Run, Plain, Draw, Trace, Frontiers, Why, Stimuli, Info, Cone, Diff, Twin, Check}
use Rattle.command_line.specs.declared.source_options.SourceOptions.{SourceOptions}
use Rattle.program_io.specs.declared.order_texts.OrderTexts.{OrderTexts}
use Rattle.command_line.specs.Sources.{source_from}
use Rattle.program_io.specs.Options.{IsSourceOf, KnownTexts}

-- it holds for a source of these options
abbrev pub ForSource : KnownTexts → SourceOptions → (SourceView → Type 0) → Type 0
ForSource known options P = (source : SourceView) × IsSourceOf known options source × P source

-- the answer to an order, or the first fault
abbrev pub IsAnswer : KnownTexts → Order → Result Answer ProgramFault → Type 0
IsAnswer known (Run options view counts) answer = ForSource known options (λ source. answer ≡ run_answer source view counts)
IsAnswer known (Plain options view) answer = ForSource known options (λ source. answer ≡ plain_answer source view)
IsAnswer known (Draw options view form) answer = ForSource known options (λ source. answer ≡ diagram_answer source view form)
IsAnswer known (Trace options horizon idle net) answer =
    ForSource known options (λ source. answer ≡ trace_answer source horizon (record { idle = idle; net = net }))
IsAnswer known (Frontiers options horizon show) answer = ForSource known options (λ source. answer ≡ frontiers_answer source horizon show)
IsAnswer known (Why options net tick) answer = ForSource known options (λ source. answer ≡ why_answer source net.now tick)
IsAnswer known (Stimuli bench drives draws horizon) answer =
    (text : List ℕ) × IfSome (known bench.now) (λ all. text ≡ all) × (answer ≡ stimuli_answer text (map seen_drive drives.items) draws horizon)
IsAnswer known (Info options) answer = ForSource known options (λ source. IsAnswerOfInfo source answer)
IsAnswer known (Cone bench names) answer =
    (text : List ℕ) × IfSome (known bench.now) (λ all. text ≡ all) × IsAnswerOfCone text (seen_names names.items) answer
IsAnswer known (Diff first second names ticks) answer =
    ForSource known first (λ one. ForSource known second (λ other. IsAnswerOfDiff one other (seen_names names.items) ticks answer))
IsAnswer known (Twin first second net horizon) answer =
    ForSource known first (λ one. ForSource known second (λ other. IsAnswerOfTwin one other net.now horizon answer))
IsAnswer known (Check options horizon) answer = ForSource known options (λ source. answer ≡ check_answer source horizon)

-- the answer to the order over texts that were read, or the first fault
abbrev pub IsAnswerTo : Order → OrderTexts → Result Answer ProgramFault → Type 0
IsAnswerTo (Run options view counts) texts answer = answer ≡ run_answer (source_from options texts.first) view counts
IsAnswerTo (Plain options view) texts answer = answer ≡ plain_answer (source_from options texts.first) view
IsAnswerTo (Draw options view form) texts answer = answer ≡ diagram_answer (source_from options texts.first) view form
IsAnswerTo (Trace options horizon idle net) texts answer =
    answer ≡ trace_answer (source_from options texts.first) horizon (record { idle = idle; net = net })
IsAnswerTo (Frontiers options horizon show) texts answer = answer ≡ frontiers_answer (source_from options texts.first) horizon show
IsAnswerTo (Why options net tick) texts answer = answer ≡ why_answer (source_from options texts.first) net.now tick
IsAnswerTo (Stimuli bench drives draws horizon) texts answer =
    answer ≡ stimuli_answer texts.first.bench.items (map seen_drive drives.items) draws horizon
IsAnswerTo (Info options) texts answer = IsAnswerOfInfo (source_from options texts.first) answer
IsAnswerTo (Cone bench names) texts answer = IsAnswerOfCone texts.first.bench.items (seen_names names.items) answer
IsAnswerTo (Diff first second names ticks) texts answer =
    IsAnswerOfDiff (source_from first texts.first) (source_from second texts.second) (seen_names names.items) ticks answer
IsAnswerTo (Twin first second net horizon) texts answer =
    IsAnswerOfTwin (source_from first texts.first) (source_from second texts.second) net.now horizon answer
IsAnswerTo (Check options horizon) texts answer = answer ≡ check_answer (source_from options texts.first) horizon
