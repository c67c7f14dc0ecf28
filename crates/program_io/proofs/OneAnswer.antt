-- Where the texts are known, an order has one answer at most.
use Rattle.std.proofs.Common.{◌≡◌, ◌↔◌, ℕ, Bool, true, false, IsTrue, List, [], ◌∷◌, map, Option, Some, None, IfSome, Result, Ok, Err, Bor, Vec, refl, sym, ap, subst, ◌∙◌}
use Rattle.std.specs.declared.alloc.Global.{Global}
use Rattle.std.specs.List.{filter_map}
use Rattle.std.specs.Result.{result_map_both}
use Rattle.bench_text.specs.declared.fault.BenchFault.{BenchFault}
use Rattle.bench_text.specs.Canonical.{canonical, within_limit}
use Rattle.netlist.specs.Netlist.{NetlistView, net_named}
use Rattle.netlist.specs.Repeats.{distinct}
use Rattle.bench_text.specs.NetlistOf.{netlist_of}
use Rattle.netlist.specs.Pick.{picked}
use Rattle.netlist.specs.Names.{seen_names}
use Rattle.drawn_stimuli.specs.declared.drive.Draws.{Draws}
use Rattle.drawn_stimuli.specs.declared.drive.Driven.{Driven}
use Rattle.drawn_stimuli.specs.Given.{seen_drive}
use Rattle.design.specs.Design.{DesignView}
use Rattle.fanin_cone.specs.Cone.{IsConeOf}
use Rattle.fanin_cone.specs.Extract.{IsExtract, first_unknown}
use Rattle.command_line.specs.declared.order.Order.{Order}
use Rattle.command_line.specs.declared.order.Order.TheVariants.{Run, Plain, Draw, Trace, Frontiers, Why, Stimuli, Info, Cone, Diff, Twin, Check}
use Rattle.command_line.specs.declared.source_options.SourceOptions.{SourceOptions}
use Rattle.kernel_runs.specs.declared.diff_fault.DiffFault.{DiffFault}
use Rattle.kernel_runs.specs.declared.twin_run.TwinAnswer.{TwinAnswer}
use Rattle.kernel_runs.specs.declared.twin_run.TwinFault.{TwinFault}
use Rattle.kernel_runs.specs.AnswerText.{twin_text}
use Rattle.program_io.specs.ProgramFaults.{fault_of_cone}
use Rattle.program_io.specs.Answers.{Answer, IsDiffAnswer, IsInfoAnswer, IsTwinAnswer, compared, just, stimuli_answer}
use Rattle.program_io.specs.OrderAnswer.{ForSource, IsAnswer}
use Rattle.fanin_cone.specs.declared.fault.ConeTextFault.{ConeTextFault}
use Rattle.fanin_cone.specs.ConeText.{IsConeAnswer, IsConeOfNetlist, IsExtractText, text_fault_of_bench}
use Rattle.kernel_runs.specs.Diffs.{Pair, pair_of}
use Rattle.kernel_runs.proofs.CallerLemmas.{one_diff}
use Rattle.circuit_info.proofs.CallerLemmas.{one_info, same_from_members}
use Rattle.program_io.specs.declared.program_fault.ProgramFault.{ProgramFault}
use Rattle.command_line.specs.Sources.{picks_of_options, schedule_file}
use Rattle.program_io.specs.Options.{IsSourceOf, KnownTexts, all_known, text_named}
use Rattle.prepared_runs.specs.declared.fault.SimFault.{SimFault}
use Rattle.prepared_runs.specs.Source.{SourceView, design_of_source}
use Rattle.kernel_runs.specs.Twins.{IsComparison, Twins, twins_of}

-- ---- cones

module _ (netlist : NetlistView) (names : List (List ℕ)) where
  -- a cone has one list of numbers
  one_cone : (a b : List ℕ) → IsConeOf netlist names a → IsConeOf netlist names b → a ≡ b
  one_cone a b is other_is =
      same_from_members a b is.rising other_is.rising
      (λ n at. (other_is.nets n).1 ((is.nets n).0 at))
      (λ n at. (is.nets n).1 ((other_is.nets n).0 at))

  one_extract : (a b : NetlistView) → IsExtract netlist names a → IsExtract netlist names b → a ≡ b
  one_extract a b is other_is =
      is.picked_so ∙ ap (λ keep. picked netlist keep (distinct (filter_map (net_named netlist) names))) (one_cone is.keep other_is.keep is.cone other_is.cone)
      ∙ sym other_is.picked_so

  one_extract_text : (a b : Result (List ℕ) ConeTextFault) → IsExtractText netlist names a → IsExtractText netlist names b → a ≡ b
  one_extract_text a b is other_is =
      is.text ∙ ap (λ extract. result_map_both (λ text. text) text_fault_of_bench (within_limit (canonical extract))) (one_extract is.extract other_is.extract is.extracted other_is.extracted)
      ∙ sym other_is.text

module _ (a b : Result (List ℕ) ConeTextFault) where
  one_of_netlist : (netlist : NetlistView) (names : List (List ℕ)) → IsConeOfNetlist netlist names a → IsConeOfNetlist netlist names b → a ≡ b
  one_of_netlist netlist [] is other_is = is ∙ sym other_is
  one_of_netlist netlist (name ∷ names) is other_is = go (first_unknown netlist (name ∷ names)) refl
    where
      go : (unknown : Option ℕ) → first_unknown netlist (name ∷ names) ≡ unknown → a ≡ b
      go (Some at) found =
          let one : a ≡ _ = rw found at is in
          let other : b ≡ _ = rw found at other_is in
          one ∙ sym other
      go None found =
          let one : IsExtractText netlist (name ∷ names) a = rw found at is in
          let other : IsExtractText netlist (name ∷ names) b = rw found at other_is in
          one_extract_text netlist (name ∷ names) a b one other

  one_cone_answer : (bench : List ℕ) (names : List (List ℕ)) → IsConeAnswer bench names a → IsConeAnswer bench names b → a ≡ b
  one_cone_answer bench names is other_is = go (netlist_of bench) refl
    where
      go : (read : Result NetlistView BenchFault) → netlist_of bench ≡ read → a ≡ b
      go (Ok netlist) found =
          let one : IsConeOfNetlist netlist names a = rw found at is in
          let other : IsConeOfNetlist netlist names b = rw found at other_is in
          one_of_netlist netlist names one other
      go (Err fault) found =
          let one : a ≡ Err (text_fault_of_bench fault) = rw found at is in
          let other : b ≡ Err (text_fault_of_bench fault) = rw found at other_is in
          one ∙ sym other

-- ---- comparisons

-- tests of one fact answer alike
same_from_fact : {P : Type 0} (a b : Bool) → (IsTrue a ↔ P) → (IsTrue b ↔ P) → a ≡ b
same_from_fact true true says other_says = refl
same_from_fact true false says other_says = sym (other_says.1 (says.0 refl))
same_from_fact false true says other_says = says.1 (other_says.0 refl)
same_from_fact false false says other_says = refl

one_comparison : (twins : Twins) (name : List ℕ) (horizon : ℕ) (a b : TwinAnswer) →
    IsComparison twins name horizon a → IsComparison twins name horizon b → twin_text a ≡ twin_text b
one_comparison twins name horizon a b is other_is =
    let agree : a.agree ≡ b.agree = same_from_fact a.agree b.agree is.agree other_is.agree in
    let first : a.first ≡ b.first = is.first ∙ sym other_is.first in
    let second : a.second ≡ b.second = is.second ∙ sym other_is.second in
    rw (agree, first, second) refl

one_twin_answer : (twins : Result Twins TwinFault) (name : List ℕ) (horizon : ℕ) (a b : Result Answer ProgramFault) →
    IsTwinAnswer twins name horizon a → IsTwinAnswer twins name horizon b → a ≡ b
one_twin_answer (Ok twins) name horizon a b (comparison, is, text) (other, other_is, other_text) =
    text ∙ ap (λ bytes. Ok (just bytes)) (one_comparison twins name horizon comparison other is other_is) ∙ sym other_text
one_twin_answer (Err fault) name horizon a b is other_is = is ∙ sym other_is

one_diff_answer : (made : Result Pair DiffFault) (a b : Result Answer ProgramFault) → IsDiffAnswer made a → IsDiffAnswer made b → a ≡ b
one_diff_answer (Ok pair) a b (text, (same, is, answer)) (other_text, (other_same, other_is, other_answer)) =
    let one = one_diff pair text other_text same other_same is other_is in
    answer ∙ ap (λ bytes. Ok (compared bytes same)) one.0 ∙ ap (λ all. Ok (compared other_text all)) one.1 ∙ sym other_answer
one_diff_answer (Err fault) a b is other_is = is ∙ sym other_is

-- ---- descriptions

one_info_answer : (made : Result (ℕ × DesignView) SimFault) (a b : Result Answer ProgramFault) → IsInfoAnswer made a → IsInfoAnswer made b → a ≡ b
one_info_answer (Ok ready) a b (text, is, answer) (other, other_is, other_answer) =
    answer ∙ ap (λ text. Ok (just text)) (one_info ready.1 text other is other_is) ∙ sym other_answer
one_info_answer (Err fault) a b is other_is = is ∙ sym other_is

-- ---- sources

module _ (texts : List ℕ → List ℕ) where
  abbrev known : KnownTexts
  known = all_known texts

  -- a file has one text
  one_text : (file : Option (Bor (List ℕ))) (a b : List ℕ) →
      IfSome (text_named known file) (λ all. a ≡ all) → IfSome (text_named known file) (λ all. b ≡ all) → a ≡ b
  one_text None a b is other_is = is ∙ sym other_is
  one_text (Some name) a b is other_is = is ∙ sym other_is

  module _ (options : SourceOptions) where
    one_source : (a b : SourceView) → IsSourceOf known options a → IsSourceOf known options b → a ≡ b
    one_source a b is other_is =
        let bench : a.bench ≡ b.bench = is.bench ∙ sym other_is.bench in
        let delays : a.delays ≡ b.delays = one_text options.delays a.delays b.delays is.delays other_is.delays in
        let stimuli : a.stimuli ≡ b.stimuli = one_text options.stimuli a.stimuli b.stimuli is.stimuli other_is.stimuli in
        let schedule : is.schedule ≡ other_is.schedule =
        one_text (schedule_file options.picks) is.schedule other_is.schedule is.scheduled other_is.scheduled in
        let delay : a.default_delay ≡ b.default_delay = is.delay ∙ sym other_is.delay in
        let period : a.period ≡ b.period = is.period ∙ sym other_is.period in
        let picks : a.picks ≡ b.picks = is.picks ∙ ap (picks_of_options options.picks) schedule ∙ sym other_is.picks in
        λ i. record {
          bench = bench i;
          delays = delays i;
          stimuli = stimuli i;
          default_delay = delay i;
          period = period i;
          picks = picks i;
        }

    -- what each source fixes is fixed by the options
    one_for_source : {A : Type 0} (P Q : SourceView → Type 0) (x y : A) → ((source : SourceView) → P source → Q source → x ≡ y) →
        ForSource known options P → ForSource known options Q → x ≡ y
    one_for_source P Q x y same (source, is, holds) (other, other_is, other_holds) =
        same source holds (subst Q (one_source other source other_is is) other_holds)

  -- ---- orders

  one_for_cone : (bench : Bor (List ℕ)) (names : Vec (Bor (List ℕ)) Global) (a b : Result Answer ProgramFault) →
      IsAnswer known (Cone bench names) a → IsAnswer known (Cone bench names) b → a ≡ b
  one_for_cone bench names a b (text, read, (found, is, answer)) (other_text, other_read, (other_found, other_is, other_answer)) =
      let same_text : other_text ≡ text = other_read ∙ sym read in
      let of_text : IsConeAnswer text (seen_names names.items) other_found =
      subst (λ (t : List ℕ). IsConeAnswer t (seen_names names.items) other_found) same_text other_is in
      answer ∙ ap (result_map_both just fault_of_cone) (one_cone_answer found other_found text (seen_names names.items) is of_text) ∙ sym other_answer

  one_for_stimuli : (bench : Bor (List ℕ)) (drives : Vec Driven Global) (draws : Draws) (horizon : ℕ) (a b : Result Answer ProgramFault) →
      IsAnswer known (Stimuli bench drives draws horizon) a → IsAnswer known (Stimuli bench drives draws horizon) b → a ≡ b
  one_for_stimuli bench drives draws horizon a b (text, read, is) (other_text, other_read, other_is) =
      let same_text : text ≡ other_text = read ∙ sym other_read in
      is ∙ ap (λ t. stimuli_answer t (map seen_drive drives.items) draws horizon) same_text ∙ sym other_is

  pub one_answer : (order : Order) (a b : Result Answer ProgramFault) → IsAnswer known order a → IsAnswer known order b → a ≡ b
  one_answer (Run options view counts) a b = one_for_source options _ _ a b (λ source is other_is. is ∙ sym other_is)
  one_answer (Plain options view) a b = one_for_source options _ _ a b (λ source is other_is. is ∙ sym other_is)
  one_answer (Cone bench names) a b = one_for_cone bench names a b
  one_answer (Twin first second net horizon) a b =
      one_for_source first _ _ a b (λ one.
      one_for_source second _ _ a b (λ other. one_twin_answer (twins_of one other net.now horizon) net.now horizon a b))
  one_answer (Info options) a b = one_for_source options _ _ a b (λ source. one_info_answer (design_of_source source 0) a b)
  one_answer (Diff first second names ticks) a b =
      one_for_source first _ _ a b (λ one.
      one_for_source second _ _ a b (λ other. one_diff_answer (pair_of one other (seen_names names.items) ticks) a b))
  one_answer (Trace options horizon idle net) a b = one_for_source options _ _ a b (λ source is other_is. is ∙ sym other_is)
  one_answer (Frontiers options horizon show) a b = one_for_source options _ _ a b (λ source is other_is. is ∙ sym other_is)
  one_answer (Why options net tick) a b = one_for_source options _ _ a b (λ source is other_is. is ∙ sym other_is)
  one_answer (Stimuli bench drives draws horizon) a b = one_for_stimuli bench drives draws horizon a b
  one_answer (Draw options view form) a b = one_for_source options _ _ a b (λ source is other_is. is ∙ sym other_is)
  one_answer (Check options horizon) a b = one_for_source options _ _ a b (λ source is other_is. is ∙ sym other_is)
