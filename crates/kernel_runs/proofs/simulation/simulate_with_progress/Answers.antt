use Rattle.std.proofs.Common.{ℕ, ◌+◌, ◌≤◌, List, [], Result, Ok, Err, IfOk, OnOk, sym, ◌∙◌, subst}
use Rattle.std.specs.Io.KnownBytes.{Appends}
use Rattle.std.proofs.lemmas.Result.{err_from_is_err_and, IfErr-weaker, IfOk-weaker, on_ok_weaker}
use Rattle.cmb_kernel.specs.State.{most_rounds}
use Rattle.kernel_runs.specs.declared.simulation.Report.{Report}
use Rattle.prepared_runs.specs.Source.{seen_source}
use Rattle.prepared_runs.specs.Prepared.{RunView, run_of_source, seen_run}
use Rattle.prepared_runs.specs.Ends.{BreaksOff}
use Rattle.kernel_runs.proofs.Reports.{on_any, simulated-bad, simulated-good, simulated-unknown}
use Rattle.kernel_runs.specs.KnownTicks.{IsProgressByRounds}
use Rattle.kernel_runs.proofs.Numbers.{by_rounds_stopped}
use Rattle.kernel_runs.proofs.Completed.{run_completes_on}
use Rattle.kernel_runs.proofs.ConesShown.{CanShow-shown}
use Rattle.prepared_runs.proofs.CallerLemmas.{RunEndsBy-BreaksOff, RunEndsBy-IsRefusal, ShowsValues-run_of_source, dump_of_design-nets, IfSome-appended, ready_of_run}
use Rattle.kernel_runs.proofs.Simulated.{few_rounds}
use Rattle.prepared_runs.specs.Reported.{IsProgress, Reported}
use Rattle.prepared_runs.proofs.CallerLemmas.{progress-nothing}
use Rattle.kernel_runs.proofs.simulation.simulate_with_progress.Goals as goal

pub returns-in_err-run-clause-err : goal.returns-in_err-run-clause-err
returns-in_err-run-clause-err g c =
    let p = err_from_is_err_and c.from_residual.result c.from_residual.ensures.1 in
    let source = seen_source c.args.source.now in
    let view = c.args.view.now in
    rw (p.1, p.2) (RunEndsBy-IsRefusal (run_of_source source view.horizon) _ _ _ (simulated-bad source view _) c.in_err-run.ensures.err)

pub returns-in_err-nets-clause-err : goal.returns-in_err-nets-clause-err
returns-in_err-nets-clause-err g c =
    let p = err_from_is_err_and c.from_residual-in_err-nets.result c.from_residual-in_err-nets.ensures.1 in
    rw (p.1, p.2) (RunEndsBy-IsRefusal _ _ _ _ (simulated-unknown (seen_source c.args.source.now) c.args.view.now _ c.in_ok-run.ensures.ok _ _) c.in_err-nets.ensures.err)

pub dump_by_rounds-requires : goal.dump_by_rounds-requires
dump_by_rounds-requires g c = record {
  can = CanShow-shown c.args.view.now.show c.in_ok-run.run' c.as_slice.result.now c.shown_nets.ensures.well_formed c.in_ok-run.ensures.exist
      c.in_ok-run.ensures.few (c.as_slice.ensures.value ∙ c.in_ok-nets.ensures.nets);
}

-- what holds of a result, and of its value
both : {A F : Type 0} (P : Type 0) (Q : A → Type 0) (result : Result A F) → OnOk result P → IfOk result Q → IfOk result (λ value. P × Q value)
both P Q (Ok value) p q = (p, q)
both P Q (Err fault) p q = tt

pub returns-clause-ok : goal.returns-clause-ok
returns-clause-ok g c =
    let text = dump_of_design-nets c.args.view.now c.in_ok-run.run'.horizon c.in_ok-run.run'.design c.as_slice.result.now
    (c.as_slice.ensures.value ∙ c.in_ok-nets.ensures.nets) in
    rw (simulated-good (seen_source c.args.source.now) c.args.view.now _ c.in_ok-run.ensures.ok c.in_ok-nets.ensures.known)
    (both _ _ c.dump_by_rounds.result (on_ok_weaker c.dump_by_rounds.result (subst (Appends _ _) text) c.dump_by_rounds.ensures.ok)
    (c.dump_by_rounds.ensures.report))

pub returns-clause-shows : goal.returns-clause-shows
returns-clause-shows g c =
    let text = dump_of_design-nets c.args.view.now c.in_ok-run.run'.horizon c.in_ok-run.run'.design c.as_slice.result.now
    (c.as_slice.ensures.value ∙ c.in_ok-nets.ensures.nets) in
    rw c.in_ok-run.ensures.ok
    (on_ok_weaker c.dump_by_rounds.result
    (λ done empty. IfSome-appended _ _ _ _ empty (subst (Appends _ _) text done)
    (ShowsValues-run_of_source (seen_source c.args.source.now) c.args.view.now _ c.in_ok-run.ensures.ok))
    c.dump_by_rounds.ensures.ok)

pub returns-clause-rounds : goal.returns-clause-rounds
returns-clause-rounds g c =
    let run = seen_run c.in_ok-run.run' in
    rw c.in_ok-run.ensures.ok
    (IfOk-weaker c.dump_by_rounds.result _ _
    (λ report is. subst (λ (r : Report). r.total.rounds ≤ most_rounds (run.horizon + 1) run.design.circuit) (sym is) (few_rounds run))
    (c.dump_by_rounds.ensures.report))

pub returns-clause-complete : goal.returns-clause-complete
returns-clause-complete g c =
    run_completes_on (seen_source c.args.source.now) c.args.view.now.horizon _ c.dump_by_rounds.result c.in_ok-run.ensures.ok

pub returns-clause-err : goal.returns-clause-err
returns-clause-err g c =
    let text = dump_of_design-nets c.args.view.now c.in_ok-run.run'.horizon c.in_ok-run.run'.design c.as_slice.result.now
    (c.as_slice.ensures.value ∙ c.in_ok-nets.ensures.nets) in
    rw (simulated-good (seen_source c.args.source.now) c.args.view.now _ c.in_ok-run.ensures.ok c.in_ok-nets.ensures.known)
    (IfErr-weaker c.dump_by_rounds.result _ _
    (λ fault ends. RunEndsBy-BreaksOff _ _ _ fault (subst (λ whole. BreaksOff (g.W.Write.contents c.args.out.now) (g.W.Write.contents c.dump_by_rounds.new.out) whole fault) text ends)) c.dump_by_rounds.ensures.err)

pub returns-in_err-run-clause-reported : goal.returns-in_err-run-clause-reported
returns-in_err-run-clause-reported g c =
    let p = err_from_is_err_and c.from_residual.result c.from_residual.ensures.1 in
    let horizon = c.args.view.now.horizon in
    progress-nothing (g.P.Progress.reports horizon) c.from_residual.result _ horizon c.args.progress.now p.1 (g.met.P.Progress.nothing horizon c.args.progress.now)

pub returns-in_err-nets-clause-reported : goal.returns-in_err-nets-clause-reported
returns-in_err-nets-clause-reported g c =
    let p = err_from_is_err_and c.from_residual-in_err-nets.result c.from_residual-in_err-nets.ensures.1 in
    let horizon = c.args.view.now.horizon in
    progress-nothing (g.P.Progress.reports horizon) c.from_residual-in_err-nets.result _ horizon c.args.progress.now p.1 (g.met.P.Progress.nothing horizon c.args.progress.now)

-- such progress is progress
progress : {S A F : Type 0} (run : RunView) (reports : S → List ℕ → S → Type 0) (result : Result A F) (old new : S) →
    Reported reports (IsProgressByRounds run result) old new → Reported reports (IsProgress result run.horizon) old new
progress run reports result old new (ticks, reported, holds) = (ticks, reported, holds.0.0)

pub returns-clause-reported : goal.returns-clause-reported
returns-clause-reported g c =
    let ready = ready_of_run (seen_source c.args.source.now) c.args.view.now.horizon (seen_run c.in_ok-run.run') c.in_ok-run.ensures.ok in
    let reports = g.P.Progress.reports in
    subst (λ horizon. Reported (reports horizon) (IsProgress c.dump_by_rounds.result horizon) c.args.progress.now c.dump_by_rounds.new.progress) ready.horizon
    (progress (seen_run c.in_ok-run.run') (reports c.in_ok-run.run'.horizon) c.dump_by_rounds.result c.args.progress.now c.dump_by_rounds.new.progress
    c.dump_by_rounds.ensures.reported)

pub returns-in_err-run-clause-by_rounds : goal.returns-in_err-run-clause-by_rounds
returns-in_err-run-clause-by_rounds g c =
    let p = err_from_is_err_and c.from_residual.result c.from_residual.ensures.1 in
    on_any (run_of_source (seen_source c.args.source.now) c.args.view.now.horizon) (λ run.
    ([], g.met.P.Progress.nothing run.horizon c.args.progress.now, by_rounds_stopped run c.from_residual.result _ p.1))

pub returns-in_err-nets-clause-by_rounds : goal.returns-in_err-nets-clause-by_rounds
returns-in_err-nets-clause-by_rounds g c =
    let p = err_from_is_err_and c.from_residual-in_err-nets.result c.from_residual-in_err-nets.ensures.1 in
    on_any (run_of_source (seen_source c.args.source.now) c.args.view.now.horizon) (λ run.
    ([], g.met.P.Progress.nothing run.horizon c.args.progress.now, by_rounds_stopped run c.from_residual-in_err-nets.result _ p.1))

pub returns-clause-by_rounds : goal.returns-clause-by_rounds
returns-clause-by_rounds g c = rw c.in_ok-run.ensures.ok c.dump_by_rounds.ensures.reported
