use Rattle.std.proofs.Common.{◌∙◌}
use Rattle.prepared_runs.specs.Prepared.{seen_run}
use Rattle.kernel_runs.proofs.Checks.{waves_of-to_end}
use Rattle.kernel_runs.proofs.check_run.check_prepared.Goals as goal

pub same_waves-requires-clause-waves : goal.same_waves-requires-clause-waves
same_waves-requires-clause-waves c =
    c.as_slice.ensures.value ∙ c.in_ok-waves.ensures
    ∙ waves_of-to_end (seen_run c.args.run.now) c.in_ok-kernel.kernel c.in_ok-kernel.ensures.ok.circuit c.in_ok-kernel.ensures.ok.end
