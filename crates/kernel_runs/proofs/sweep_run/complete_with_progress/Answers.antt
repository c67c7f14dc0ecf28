use Rattle.std.proofs.Common.{ap, subst, ◌∙◌}
use Rattle.std.proofs.lemmas.Result.{err_from_is_err_and}
use Rattle.cmb_kernel.specs.State.{KernelView}
use Rattle.cmb_kernel.specs.Sweeps.{EventsLead}
use Rattle.prepared_runs.proofs.CallerLemmas.{progress-nothing}
use Rattle.kernel_runs.proofs.sweep_run.complete_with_progress.Goals as goal

pub returns-clause-ok : goal.returns-clause-ok
returns-clause-ok g c =
    let start = c.in_ok-kernel.ensures.ok in
    let goes = c.in_ok-run_to_end.ensures.goes in
    record {
      running = ap (λ (k : KernelView). k.failed) goes.run ∙ ap (λ (k : KernelView). k.failed) start;
      circuit = ap (λ (k : KernelView). k.circuit) goes.run ∙ ap (λ (k : KernelView). k.circuit) start;
      end = ap (λ (k : KernelView). k.end) goes.run ∙ ap (λ (k : KernelView). k.end) start;
      known = c.in_ok-run_to_end.ensures.known;
      led = subst (λ (k : KernelView). EventsLead k.circuit k.state c.run_to_end.new.kernel.state) start goes.led;
      undrained = c.in_ok-run_to_end.ensures.undrained;
    }

pub run_to_end-requires-clause-end : goal.run_to_end-requires-clause-end
run_to_end-requires-clause-end g c = ap (λ (k : KernelView). k.end) c.in_ok-kernel.ensures.ok

pub returns-in_err-kernel-clause-reported : goal.returns-in_err-kernel-clause-reported
returns-in_err-kernel-clause-reported g c =
    let p = err_from_is_err_and c.from_residual.result c.from_residual.ensures.1 in
    let horizon = c.args.run.now.horizon in
    progress-nothing (g.P.Progress.reports horizon) c.from_residual.result _ horizon c.args.progress.now p.1 (g.met.P.Progress.nothing horizon c.args.progress.now)

pub returns-in_err-sweeps-clause-reported : goal.returns-in_err-sweeps-clause-reported
returns-in_err-sweeps-clause-reported g c =
    let p = err_from_is_err_and c.from_residual-in_err-sweeps.result c.from_residual-in_err-sweeps.ensures.1 in
    let horizon = c.args.run.now.horizon in
    progress-nothing (g.P.Progress.reports horizon) c.from_residual-in_err-sweeps.result _ horizon c.args.progress.now p.1
    (g.met.P.Progress.nothing horizon c.args.progress.now)

pub returns-in_err-run_to_end-clause-reported : goal.returns-in_err-run_to_end-clause-reported
returns-in_err-run_to_end-clause-reported g c =
    let p = err_from_is_err_and c.from_residual-in_err-run_to_end.result c.from_residual-in_err-run_to_end.ensures.1 in
    rw p.1 c.in_err-run_to_end.ensures.reported
