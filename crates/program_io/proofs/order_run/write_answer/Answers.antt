use Rattle.std.proofs.Common.{◌≡◌, ℕ, List, [], Result, Ok, Err, OnOk, Bor, Vec, refl, sym, subst}
use Rattle.std.specs.declared.alloc.Global.{Global}
use Rattle.std.proofs.lemmas.Result.{IfErr-weaker, IfOk-weaker}
use Rattle.netlist.specs.Names.{seen_names}
use Rattle.prepared_runs.specs.Source.{SourceView, seen_source}
use Rattle.prepared_runs.specs.Reported.{Reported}
use Rattle.wave_diff.specs.declared.diff_ticks.DiffTicks.{DiffTicks}
use Rattle.program_io.specs.declared.program_fault.ProgramFault.{ProgramFault}
use Rattle.program_io.specs.Answers.{Answer, IsAnswerOfCone, IsAnswerOfDiff}
use Rattle.program_io.proofs.AnswerEnds.{AnswerEndsBy-weaker, GoesOut-weaker}
use Rattle.command_line.specs.declared.order.Order.{Order}
use Rattle.command_line.specs.declared.order.Order.TheVariants as orders
use Rattle.command_line.specs.declared.source_options.SourceOptions.{SourceOptions}
use Rattle.program_io.specs.declared.order_texts.OrderTexts.{OrderTexts}
use Rattle.command_line.specs.Sources.{source_from}
use Rattle.program_io.specs.OrderAnswer.{IsAnswerTo}
use Rattle.program_io.specs.Progress.{DoneTicks, horizon_reported}
use Rattle.program_io.proofs.order_run.write_answer.Goals as goal

-- the answer over the slices of names that are handed on is that to the order
module _ (order : Order) (texts : OrderTexts) (names : Vec (Bor (List ℕ)) Global) (slice : List (Bor (List ℕ))) where
  IsAnswerTo-cone : (bench : Bor (List ℕ)) (text : List ℕ) → order ≡ orders.Cone bench names → text ≡ texts.first.bench.items → slice ≡ names.items →
      (answer : Result Answer ProgramFault) → IsAnswerOfCone text (seen_names slice) answer → IsAnswerTo order texts answer
  IsAnswerTo-cone bench text is same_text same_names answer holds =
      subst (λ (o : Order). IsAnswerTo o texts answer) (sym is)
      (subst (λ (s : List (Bor (List ℕ))). IsAnswerOfCone texts.first.bench.items (seen_names s) answer) same_names
      (subst (λ (t : List ℕ). IsAnswerOfCone t (seen_names slice) answer) same_text holds))

  IsAnswerTo-diff : (first second : SourceOptions) (ticks : DiffTicks) (one other : SourceView) → order ≡ orders.Diff first second names ticks →
      one ≡ source_from first texts.first → other ≡ source_from second texts.second → slice ≡ names.items →
      (answer : Result Answer ProgramFault) → IsAnswerOfDiff one other (seen_names slice) ticks answer → IsAnswerTo order texts answer
  IsAnswerTo-diff first second ticks one other is same_one same_other same_names answer holds =
      subst (λ (o : Order). IsAnswerTo o texts answer) (sym is)
      (subst (λ (s : List (Bor (List ℕ))). IsAnswerOfDiff (source_from first texts.first) (source_from second texts.second) (seen_names s) ticks answer) same_names
      (subst (λ (s : SourceView). IsAnswerOfDiff (source_from first texts.first) s (seen_names slice) ticks answer) same_other
      (subst (λ (s : SourceView). IsAnswerOfDiff s other (seen_names slice) ticks answer) same_one holds)))

-- an order that reports no ticks
reports-nothing : {S A F : Type 0} (reports : ℕ → S → List ℕ → S → Type 0) → ((horizon : ℕ) (state : S) → reports horizon state [] state) →
    (order : Order) (state : S) (result : Result A F) → DoneTicks order [] → OnOk result (Reported (reports (horizon_reported order)) (DoneTicks order) state state)
reports-nothing reports nothing order state (Ok value) none = ([], nothing (horizon_reported order) state, none)
reports-nothing reports nothing order state (Err fault) none = tt

pub returns-in-Info-clause-reported : goal.returns-in-Info-clause-reported
returns-in-Info-clause-reported g c =
    reports-nothing g.P.Progress.reports g.met.P.Progress.nothing c.args.order.now c.args.progress.now c.write_info.result
    (subst (λ (o : Order). DoneTicks o []) (sym c.in-Info.is) refl)

pub returns-in-Twin-clause-reported : goal.returns-in-Twin-clause-reported
returns-in-Twin-clause-reported g c =
    reports-nothing g.P.Progress.reports g.met.P.Progress.nothing c.args.order.now c.args.progress.now c.write_twin.result
    (subst (λ (o : Order). DoneTicks o []) (sym c.in-Twin.is) refl)

pub returns-in-Cone-clause-ok : goal.returns-in-Cone-clause-ok
returns-in-Cone-clause-ok g c =
    IfOk-weaker c.write_cone.result _ _
    (GoesOut-weaker (IsAnswerOfCone c.as_slice-in-Cone.result.now (seen_names c.as_slice-in-Cone-2.result.now)) (IsAnswerTo c.args.order.now c.args.texts.now)
    (IsAnswerTo-cone c.args.order.now c.args.texts.now c.in-Cone.names c.as_slice-in-Cone-2.result.now c.in-Cone.bench c.as_slice-in-Cone.result.now
    c.in-Cone.is c.as_slice-in-Cone.ensures.value c.as_slice-in-Cone-2.ensures.value) _ _)
    c.write_cone.ensures.ok

pub returns-in-Cone-clause-err : goal.returns-in-Cone-clause-err
returns-in-Cone-clause-err g c =
    IfErr-weaker c.write_cone.result _ _
    (AnswerEndsBy-weaker (IsAnswerOfCone c.as_slice-in-Cone.result.now (seen_names c.as_slice-in-Cone-2.result.now)) (IsAnswerTo c.args.order.now c.args.texts.now)
    (IsAnswerTo-cone c.args.order.now c.args.texts.now c.in-Cone.names c.as_slice-in-Cone-2.result.now c.in-Cone.bench c.as_slice-in-Cone.result.now
    c.in-Cone.is c.as_slice-in-Cone.ensures.value c.as_slice-in-Cone-2.ensures.value) _ _)
    c.write_cone.ensures.err

pub returns-in-Diff-clause-ok : goal.returns-in-Diff-clause-ok
returns-in-Diff-clause-ok g c =
    let one = seen_source c.source-in-Diff.result in
    let other = seen_source c.source-in-Diff-2.result in
    IfOk-weaker c.write_diff.result _ _
    (GoesOut-weaker (IsAnswerOfDiff one other (seen_names c.as_slice-in-Diff.result.now) c.in-Diff.ticks) (IsAnswerTo c.args.order.now c.args.texts.now)
    (IsAnswerTo-diff c.args.order.now c.args.texts.now c.in-Diff.names c.as_slice-in-Diff.result.now c.in-Diff.first c.in-Diff.second c.in-Diff.ticks one other
    c.in-Diff.is c.source-in-Diff.ensures c.source-in-Diff-2.ensures c.as_slice-in-Diff.ensures.value) _ _)
    c.write_diff.ensures.ok

pub returns-in-Diff-clause-err : goal.returns-in-Diff-clause-err
returns-in-Diff-clause-err g c =
    let one = seen_source c.source-in-Diff.result in
    let other = seen_source c.source-in-Diff-2.result in
    IfErr-weaker c.write_diff.result _ _
    (AnswerEndsBy-weaker (IsAnswerOfDiff one other (seen_names c.as_slice-in-Diff.result.now) c.in-Diff.ticks) (IsAnswerTo c.args.order.now c.args.texts.now)
    (IsAnswerTo-diff c.args.order.now c.args.texts.now c.in-Diff.names c.as_slice-in-Diff.result.now c.in-Diff.first c.in-Diff.second c.in-Diff.ticks one other
    c.in-Diff.is c.source-in-Diff.ensures c.source-in-Diff-2.ensures c.as_slice-in-Diff.ensures.value) _ _)
    c.write_diff.ensures.err
