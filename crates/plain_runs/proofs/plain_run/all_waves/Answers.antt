use Rattle.std.proofs.Common.{◌+◌, ap, arith}
use Rattle.std.specs.List.{range_with_len}
use Rattle.std.proofs.lemmas.Grind.{common_steps}
use Rattle.std.proofs.lemmas.Result.{err_from_is_err_and}
use Rattle.prepared_runs.proofs.CallerLemmas.{reports-next, tick_by_tick-nothing, tick_by_tick-stopped}
use Rattle.plain_runs.proofs.plain_run.all_waves.Goals as goal

pub returns-in_err-waves-clause-reported : goal.returns-in_err-waves-clause-reported
returns-in_err-waves-clause-reported g c =
    let p = err_from_is_err_and c.from_residual.result c.from_residual.ensures.1 in
    tick_by_tick-nothing (g.P.Progress.reports c.args.horizon) c.from_residual.result _ c.args.horizon c.args.progress.now p.1
    (g.met.P.Progress.nothing c.args.horizon c.args.progress.now)

pub loop-tick-preserved : goal.loop-tick-preserved
loop-tick-preserved g c = record {
  waves = grind (arith, common_steps);
  reported = reports-next (g.P.Progress.reports c.args.horizon) (g.met.P.Progress.joined c.args.horizon) (c.loop-tick.tick + 1) c.args.progress.now
      c.loop-tick.progress c.report-in-loop-tick.new.self c.loop-tick.invariant.reported c.report-in-loop-tick.ensures;
}

pub returns-in_err-advance-clause-reported : goal.returns-in_err-advance-clause-reported
returns-in_err-advance-clause-reported g c =
    let p = err_from_is_err_and c.from_residual-in_err-advance.result c.from_residual-in_err-advance.ensures.1 in
    tick_by_tick-stopped (g.P.Progress.reports c.args.horizon) c.from_residual-in_err-advance.result _ c.args.horizon (c.loop-tick.tick + 1) c.args.progress.now
    c.loop-tick.progress p.1 (omega arith) c.loop-tick.invariant.reported

pub returns-clause-reported : goal.returns-clause-reported
returns-clause-reported g c = (range_with_len 0 (c.loop-tick.tick + 1), c.loop-tick.invariant.reported, ap (range_with_len 0) (omega arith))
