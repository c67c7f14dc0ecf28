use Rattle.std.proofs.Common.{ℕ, List, Result, subst, ◌∙◌}
use Rattle.std.specs.Io.KnownBytes.{Appends}
use Rattle.std.proofs.lemmas.Result.{err_from_is_err_and, IfErr-weaker, on_ok_weaker}
use Rattle.prepared_runs.specs.Source.{seen_source}
use Rattle.prepared_runs.specs.Prepared.{run_of_source, seen_run}
use Rattle.prepared_runs.specs.Ends.{BreaksOff}
use Rattle.kernel_runs.proofs.Reports.{on_any, simulated-bad, simulated-good, simulated-unknown}
use Rattle.kernel_runs.specs.Simulated.{known_after_events}
use Rattle.kernel_runs.proofs.Completed.{run_completes_on}
use Rattle.kernel_runs.proofs.ConesShown.{CanShow-shown, dump_alone}
use Rattle.prepared_runs.proofs.CallerLemmas.{RunEndsBy-BreaksOff, RunEndsBy-IsRefusal, ShowsValues-run_of_source, IfSome-appended, ready_of_run}
use Rattle.prepared_runs.specs.Reported.{IsProgress, IsProgressFrom, Reported}
use Rattle.prepared_runs.proofs.CallerLemmas.{progress-nothing, progress_from-nothing}
use Rattle.kernel_runs.proofs.sweep_run.sweep_with_progress.Goals as goal

pub returns-in_err-run-clause-err : goal.returns-in_err-run-clause-err
returns-in_err-run-clause-err g c =
    let p = err_from_is_err_and c.from_residual.result c.from_residual.ensures.1 in
    let source = seen_source c.args.source.now in
    let view = c.args.view.now in
    rw (p.1, p.2) (RunEndsBy-IsRefusal (run_of_source source view.horizon) _ _ _ (simulated-bad source view _) c.in_err-run.ensures.err)

pub returns-in_err-nets-clause-err : goal.returns-in_err-nets-clause-err
returns-in_err-nets-clause-err g c =
    let p = err_from_is_err_and c.from_residual-in_err-nets.result c.from_residual-in_err-nets.ensures.1 in
    rw (p.1, p.2) (RunEndsBy-IsRefusal _ _ _ _ (simulated-unknown (seen_source c.args.source.now) c.args.view.now _ c.in_ok-run.ensures.ok _ _) c.in_err-nets.ensures.err)

pub cones_of-requires : goal.cones_of-requires
cones_of-requires g c =
    CanShow-shown c.args.view.now.show c.in_ok-run.run' c.in_ok-nets.nets.items c.shown_nets.ensures.well_formed c.in_ok-run.ensures.exist c.in_ok-run.ensures.few
    c.in_ok-nets.ensures.nets

pub returns-clause-ok : goal.returns-clause-ok
returns-clause-ok g c =
    let text = dump_alone c.args.view.now c.in_ok-shown.shown.run c.in_ok-run.run' c.as_slice.result.now c.in_ok-shown.shown.nets.items c.in_ok-nets.nets.items
    c.as_slice.ensures.value c.in_ok-shown.ensures.same c.in_ok-nets.ensures.nets in
    rw (simulated-good (seen_source c.args.source.now) c.args.view.now _ c.in_ok-run.ensures.ok c.in_ok-nets.ensures.known)
    (on_ok_weaker c.dump_by_sweeps.result (subst (Appends _ _) text) c.dump_by_sweeps.ensures.ok)

pub returns-clause-shows : goal.returns-clause-shows
returns-clause-shows g c =
    let text = dump_alone c.args.view.now c.in_ok-shown.shown.run c.in_ok-run.run' c.as_slice.result.now c.in_ok-shown.shown.nets.items c.in_ok-nets.nets.items
    c.as_slice.ensures.value c.in_ok-shown.ensures.same c.in_ok-nets.ensures.nets in
    rw c.in_ok-run.ensures.ok
    (on_ok_weaker c.dump_by_sweeps.result
    (λ done empty. IfSome-appended _ _ _ _ empty (subst (Appends _ _) text done)
    (ShowsValues-run_of_source (seen_source c.args.source.now) c.args.view.now _ c.in_ok-run.ensures.ok))
    c.dump_by_sweeps.ensures.ok)

pub returns-clause-complete : goal.returns-clause-complete
returns-clause-complete g c =
    run_completes_on (seen_source c.args.source.now) c.args.view.now.horizon _ c.dump_by_sweeps.result c.in_ok-run.ensures.ok

pub returns-clause-err : goal.returns-clause-err
returns-clause-err g c =
    let text = dump_alone c.args.view.now c.in_ok-shown.shown.run c.in_ok-run.run' c.as_slice.result.now c.in_ok-shown.shown.nets.items c.in_ok-nets.nets.items
    c.as_slice.ensures.value c.in_ok-shown.ensures.same c.in_ok-nets.ensures.nets in
    rw (simulated-good (seen_source c.args.source.now) c.args.view.now _ c.in_ok-run.ensures.ok c.in_ok-nets.ensures.known)
    (IfErr-weaker c.dump_by_sweeps.result _ _
    (λ fault ends. RunEndsBy-BreaksOff _ _ _ fault (subst (λ whole. BreaksOff (g.W.Write.contents c.args.out.now) (g.W.Write.contents c.dump_by_sweeps.new.out) whole fault) text ends)) c.dump_by_sweeps.ensures.err)

pub returns-in_err-run-clause-reported : goal.returns-in_err-run-clause-reported
returns-in_err-run-clause-reported g c =
    let p = err_from_is_err_and c.from_residual.result c.from_residual.ensures.1 in
    let horizon = c.args.view.now.horizon in
    progress-nothing (g.P.Progress.reports horizon) c.from_residual.result _ horizon c.args.progress.now p.1 (g.met.P.Progress.nothing horizon c.args.progress.now)

pub returns-in_err-nets-clause-reported : goal.returns-in_err-nets-clause-reported
returns-in_err-nets-clause-reported g c =
    let p = err_from_is_err_and c.from_residual-in_err-nets.result c.from_residual-in_err-nets.ensures.1 in
    let horizon = c.args.view.now.horizon in
    progress-nothing (g.P.Progress.reports horizon) c.from_residual-in_err-nets.result _ horizon c.args.progress.now p.1 (g.met.P.Progress.nothing horizon c.args.progress.now)

pub returns-in_err-shown-clause-reported : goal.returns-in_err-shown-clause-reported
returns-in_err-shown-clause-reported g c =
    let p = err_from_is_err_and c.from_residual-in_err-shown.result c.from_residual-in_err-shown.ensures.1 in
    let horizon = c.args.view.now.horizon in
    progress-nothing (g.P.Progress.reports horizon) c.from_residual-in_err-shown.result _ horizon c.args.progress.now p.1 (g.met.P.Progress.nothing horizon c.args.progress.now)

-- wherever it begins, it is the progress of a run
progress : {S A F : Type 0} (first horizon : ℕ) (reports : S → List ℕ → S → Type 0) (result : Result A F) (old new : S) →
    Reported reports (IsProgressFrom first result horizon) old new → Reported reports (IsProgress result horizon) old new
progress first horizon reports result old new (ticks, reported, holds) = (ticks, reported, holds.0)

pub returns-clause-reported : goal.returns-clause-reported
returns-clause-reported g c =
    let ready = ready_of_run (seen_source c.args.source.now) c.args.view.now.horizon (seen_run c.in_ok-run.run') c.in_ok-run.ensures.ok in
    let reports = g.P.Progress.reports in
    subst (λ horizon. Reported (reports horizon) (IsProgress c.dump_by_sweeps.result horizon) c.args.progress.now c.dump_by_sweeps.new.progress)
    (c.in_ok-shown.ensures.same.horizon ∙ ready.horizon)
    (progress _ c.in_ok-shown.shown.run.horizon (reports c.in_ok-shown.shown.run.horizon) c.dump_by_sweeps.result c.args.progress.now
    c.dump_by_sweeps.new.progress c.dump_by_sweeps.ensures.reported)

pub returns-in_err-run-clause-first : goal.returns-in_err-run-clause-first
returns-in_err-run-clause-first g c =
    let p = err_from_is_err_and c.from_residual.result c.from_residual.ensures.1 in
    on_any (run_of_source (seen_source c.args.source.now) c.args.view.now.horizon) (λ run.
    progress_from-nothing (g.P.Progress.reports run.horizon) (known_after_events run) c.from_residual.result _ run.horizon c.args.progress.now p.1
    (g.met.P.Progress.nothing run.horizon c.args.progress.now))

pub returns-in_err-nets-clause-first : goal.returns-in_err-nets-clause-first
returns-in_err-nets-clause-first g c =
    let p = err_from_is_err_and c.from_residual-in_err-nets.result c.from_residual-in_err-nets.ensures.1 in
    on_any (run_of_source (seen_source c.args.source.now) c.args.view.now.horizon) (λ run.
    progress_from-nothing (g.P.Progress.reports run.horizon) (known_after_events run) c.from_residual-in_err-nets.result _ run.horizon c.args.progress.now p.1
    (g.met.P.Progress.nothing run.horizon c.args.progress.now))

pub returns-in_err-shown-clause-first : goal.returns-in_err-shown-clause-first
returns-in_err-shown-clause-first g c =
    let p = err_from_is_err_and c.from_residual-in_err-shown.result c.from_residual-in_err-shown.ensures.1 in
    on_any (run_of_source (seen_source c.args.source.now) c.args.view.now.horizon) (λ run.
    progress_from-nothing (g.P.Progress.reports run.horizon) (known_after_events run) c.from_residual-in_err-shown.result _ run.horizon c.args.progress.now p.1
    (g.met.P.Progress.nothing run.horizon c.args.progress.now))

pub returns-clause-first : goal.returns-clause-first
returns-clause-first g c =
    let run = seen_run c.in_ok-run.run' in
    let reports = g.P.Progress.reports in
    let result = c.dump_by_sweeps.result in
    let shown = c.in_ok-shown.shown.run in
    rw c.in_ok-run.ensures.ok
    (subst (λ horizon. Reported (reports horizon) (IsProgressFrom (known_after_events run) result horizon) c.args.progress.now c.dump_by_sweeps.new.progress)
    c.in_ok-shown.ensures.same.horizon
    (subst (λ known. Reported (reports shown.horizon) (IsProgressFrom known result shown.horizon) c.args.progress.now c.dump_by_sweeps.new.progress)
    c.in_ok-shown.ensures.known c.dump_by_sweeps.ensures.reported))
