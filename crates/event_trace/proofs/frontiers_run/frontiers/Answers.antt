use Rattle.std.proofs.Common.{ℕ, ◌<◌, List, length, All, sym, subst, ◌∙◌}
use Rattle.std.proofs.lemmas.Result.{err_from_is_err_and, IfErr-weaker}
use Rattle.prepared_runs.specs.Prepared.{run_of_source}
use Rattle.prepared_runs.specs.Source.{seen_source}
use Rattle.event_trace.proofs.FrontierTables.{frontiers_of_source-bad, frontiers_of_source-good, frontiers_of_source-unknown}
use Rattle.prepared_runs.proofs.CallerLemmas.{All-shown_nets, RunEndsBy-BreaksOff, RunEndsBy-IsRefusal}
use Rattle.event_trace.proofs.frontiers_run.frontiers.Goals as goal

pub returns-in_err-run-clause-err : goal.returns-in_err-run-clause-err
returns-in_err-run-clause-err g c =
    let p = err_from_is_err_and c.from_residual.result c.from_residual.ensures.1 in
    let source = seen_source c.args.source.now in
    rw (p.1, p.2) (RunEndsBy-IsRefusal (run_of_source source c.args.horizon) _ _ _ (frontiers_of_source-bad source c.args.horizon c.args.show.now _)
    c.in_err-run.ensures.err)

pub returns-in_err-nets-clause-err : goal.returns-in_err-nets-clause-err
returns-in_err-nets-clause-err g c =
    let p = err_from_is_err_and c.from_residual-in_err-nets.result c.from_residual-in_err-nets.ensures.1 in
    let source = seen_source c.args.source.now in
    rw (p.1, p.2) (RunEndsBy-IsRefusal _ _ _ _ (frontiers_of_source-unknown source c.args.horizon c.args.show.now _ c.in_ok-run.ensures.ok _ _)
    c.in_err-nets.ensures.err)

pub returns-clause-ok : goal.returns-clause-ok
returns-clause-ok g c =
    rw (frontiers_of_source-good (seen_source c.args.source.now) c.args.horizon c.args.show.now _ c.in_ok-run.ensures.ok c.in_ok-nets.ensures.known)
    c.frontiers_prepared.ensures.ok

pub returns-clause-err : goal.returns-clause-err
returns-clause-err g c =
    rw (frontiers_of_source-good (seen_source c.args.source.now) c.args.horizon c.args.show.now _ c.in_ok-run.ensures.ok c.in_ok-nets.ensures.known)
    (IfErr-weaker c.frontiers_prepared.result _ _ (λ fault. RunEndsBy-BreaksOff _ _ _ fault) c.frontiers_prepared.ensures.err)

pub frontiers_prepared-requires-clause-nets : goal.frontiers_prepared-requires-clause-nets
frontiers_prepared-requires-clause-nets g c =
    let design = c.in_ok-run.run'.design in
    subst (λ (nets : List ℕ). All (λ net. net < length design.circuit) nets) (sym (c.as_slice.ensures.value ∙ c.in_ok-nets.ensures.nets))
    (All-shown_nets c.args.show.now design c.in_ok-nets.ensures.well_formed)
