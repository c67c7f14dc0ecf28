use Rattle.std.proofs.Common.{sym}
use Rattle.std.proofs.lemmas.Result.{err_from_is_err_and}
use Rattle.prepared_runs.specs.Source.{design_of_source, seen_source}
use Rattle.prepared_runs.specs.Prepared.{run_of_source}
use Rattle.prepared_runs.proofs.Answer.{IsRefusal-lifted, IsRefusal-schedule, run_of_source-bad, run_of_source-bad_schedule, run_of_source-good}
use Rattle.prepared_runs.proofs.preparation.prepare_run.Goals as goal

pub returns-in_err-horizon-clause-err : goal.returns-in_err-horizon-clause-err
returns-in_err-horizon-clause-err c =
    let p = err_from_is_err_and c.from_residual.result c.from_residual.ensures.1 in
    let source = seen_source c.args.source.now in
    let ticks = c.args.horizon in
    rw (p.1, p.2) (IsRefusal-lifted (design_of_source source ticks) (run_of_source source ticks) _ (run_of_source-bad source ticks _) c.in_err-horizon.ensures.err)

pub returns-in_err-schedule-clause-err : goal.returns-in_err-schedule-clause-err
returns-in_err-schedule-clause-err c =
    let p = err_from_is_err_and c.from_residual-in_err-schedule.result c.from_residual-in_err-schedule.ensures.1 in
    let source = seen_source c.args.source.now in
    let ticks = c.args.horizon in
    rw (p.1, p.2) (IsRefusal-schedule (run_of_source source ticks) _ (λ known.
    run_of_source-bad_schedule source ticks _ _ c.in_ok-horizon.ensures.ok _ (sym (c.in_err-schedule.ensures.exact known))))

pub returns-clause-ok : goal.returns-clause-ok
returns-clause-ok c =
    run_of_source-good (seen_source c.args.source.now) c.args.horizon _ _ c.in_ok-horizon.ensures.ok _ (sym (c.in_ok-schedule.ensures.exact (λ e. (cc))))
