use Rattle.kernel_runs.proofs.Twins.{agrees_iff}
use Rattle.kernel_runs.proofs.twin_run.is_agreed.Goals as goal

pub returns-clause-ok : goal.returns-clause-ok
returns-clause-ok c =
    let one = c.args.first.now in
    rw c.unwrap_or.ensures
    (agrees_iff one.design c.args.second.now.design c.args.name.now one.horizon _ c.in_ok-agreed.ensures.found c.in_ok-agreed.ensures.agrees)
