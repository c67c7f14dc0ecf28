use Rattle.std.proofs.Common.{◌+◌, subst}
use Rattle.std.proofs.lemmas.Result.{err_from_is_err_and}
use Rattle.cmb_kernel.specs.State.{KernelView, least_frontier}
use Rattle.prepared_runs.specs.Reported.{IsProgressFrom}
use Rattle.prepared_runs.proofs.CallerLemmas.{progress_from-nothing}
use Rattle.kernel_runs.proofs.sweep_run.dump_by_sweeps.Goals as goal

pub returns-in_err-pace-clause-reported : goal.returns-in_err-pace-clause-reported
returns-in_err-pace-clause-reported g c =
    let p = err_from_is_err_and c.from_residual.result c.from_residual.ensures.1 in
    let horizon = c.args.run.now.horizon in
    progress_from-nothing (g.P.Progress.reports horizon) _ c.from_residual.result _ horizon c.args.progress.now p.1 (g.met.P.Progress.nothing horizon c.args.progress.now)

pub returns-in_err-kernel-clause-reported : goal.returns-in_err-kernel-clause-reported
returns-in_err-kernel-clause-reported g c =
    let p = err_from_is_err_and c.from_residual-in_err-kernel.result c.from_residual-in_err-kernel.ensures.1 in
    let horizon = c.args.run.now.horizon in
    progress_from-nothing (g.P.Progress.reports horizon) _ c.from_residual-in_err-kernel.result _ horizon c.args.progress.now p.1 (g.met.P.Progress.nothing horizon c.args.progress.now)

pub returns-clause-reported : goal.returns-clause-reported
returns-clause-reported g c =
    let reported = c.stream_to_end.ensures.reported in
    let horizon = c.args.run.now.horizon in (
      reported.0,
      reported.1,
      subst (λ (k : KernelView). IsProgressFrom (least_frontier (horizon + 1) k.state) c.stream_to_end.result horizon reported.0)
          c.in_ok-kernel.ensures.ok (reported.2).0,
    )
