use Rattle.std.proofs.Common.{subst}
use Rattle.std.specs.Io.KnownBytes.{Appends}
use Rattle.std.proofs.lemmas.Result.{err_from_is_err_and}
use Rattle.texts.specs.Written.{AppendsPrefix}
use Rattle.prepared_runs.specs.Prepared.{seen_run}
use Rattle.event_trace.proofs.FrontierTables.{frontiers_of_run-is}
use Rattle.prepared_runs.proofs.CallerLemmas.{BreaksOff-dump}
use Rattle.event_trace.proofs.frontiers_run.frontiers_prepared.Goals as goal

pub returns-in_err-frontier_table-clause-err : goal.returns-in_err-frontier_table-clause-err
returns-in_err-frontier_table-clause-err g c =
    let p = err_from_is_err_and c.from_residual.result c.from_residual.ensures.1 in
    let is = frontiers_of_run-is c.args.show.now (seen_run c.args.run.now) _ _ c.events-events.ensures c.requires.shown in
    rw (p.1, p.2) (BreaksOff-dump _ _ _ _ c.in_err-frontier_table.ensures.fault
    (subst (AppendsPrefix _ _) is c.in_err-frontier_table.ensures.err))

pub returns-clause-ok : goal.returns-clause-ok
returns-clause-ok g c =
    let is = frontiers_of_run-is c.args.show.now (seen_run c.args.run.now) _ _ c.events-events.ensures c.requires.shown in
    subst (Appends _ _) is c.in_ok-frontier_table.ensures.ok
