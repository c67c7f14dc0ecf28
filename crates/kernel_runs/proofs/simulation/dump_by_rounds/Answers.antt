use Rattle.std.proofs.Common.{[], refl, ap, ◌∙◌}
use Rattle.std.proofs.lemmas.Result.{err_from_is_err_and}
use Rattle.cmb_kernel.specs.State.{KernelView}
use Rattle.prepared_runs.specs.Prepared.{seen_run}
use Rattle.kernel_runs.proofs.Numbers.{by_rounds_after, by_rounds_stopped}
use Rattle.kernel_runs.proofs.Simulated.{report_of-after}
use Rattle.kernel_runs.proofs.simulation.dump_by_rounds.Goals as goal

pub returns-clause-report : goal.returns-clause-report
returns-clause-report g c =
    (λ i. record {
      after = c.counts-after.ensures i;
      least = c.least_frontier-least.ensures i;
      total = (c.counts-total.ensures ∙ c.in_ok-stream_to_end.ensures.counts refl) i;
    })
    ∙ report_of-after (seen_run c.args.run.now) c.in_ok-kernel.kernel c.in_ok-kernel.ensures.ok

pub returns-in_err-kernel-clause-reported : goal.returns-in_err-kernel-clause-reported
returns-in_err-kernel-clause-reported g c =
    let p = err_from_is_err_and c.from_residual.result c.from_residual.ensures.1 in
    let run = seen_run c.args.run.now in
    ([], g.met.P.Progress.nothing run.horizon c.args.progress.now, by_rounds_stopped run c.from_residual.result _ p.1)

pub returns-in_err-stream_to_end-clause-reported : goal.returns-in_err-stream_to_end-clause-reported
returns-in_err-stream_to_end-clause-reported g c =
    let p = err_from_is_err_and c.from_residual-in_err-stream_to_end.result c.from_residual-in_err-stream_to_end.ensures.1 in
    let reported = c.in_err-stream_to_end.ensures.reported in
    let state = ap (λ (k : KernelView). k.state) c.in_ok-kernel.ensures.ok in
    rw p.1 (reported.0, reported.1, by_rounds_after (seen_run c.args.run.now) _ reported.0 _ state reported.2)

pub returns-clause-reported : goal.returns-clause-reported
returns-clause-reported g c =
    let reported = c.in_ok-stream_to_end.ensures.reported in
    let state = ap (λ (k : KernelView). k.state) c.in_ok-kernel.ensures.ok in
    (reported.0, reported.1, by_rounds_after (seen_run c.args.run.now) _ reported.0 _ state reported.2)
