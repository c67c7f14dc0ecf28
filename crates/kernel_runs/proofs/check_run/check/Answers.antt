use Rattle.std.proofs.lemmas.Result.{IfErr-weaker}
use Rattle.prepared_runs.specs.Ends.{IsRefusal}
use Rattle.prepared_runs.specs.Source.{seen_source}
use Rattle.prepared_runs.specs.Prepared.{run_of_source}
use Rattle.kernel_runs.proofs.Completed.{run_completes_on}
use Rattle.kernel_runs.proofs.check_run.check.Goals as goal

pub returns-clause-ok : goal.returns-clause-ok
returns-clause-ok c = rw c.in_ok-run.ensures.ok c.check_prepared.ensures.ok

pub returns-clause-complete : goal.returns-clause-complete
returns-clause-complete c = run_completes_on (seen_source c.args.source.now) c.args.horizon _ c.check_prepared.result c.in_ok-run.ensures.ok

pub returns-clause-err : goal.returns-clause-err
returns-clause-err c =
    IfErr-weaker c.check_prepared.result _ (IsRefusal (run_of_source (seen_source c.args.source.now) c.args.horizon))
    (λ fault memory. rw memory tt) c.check_prepared.ensures.err
