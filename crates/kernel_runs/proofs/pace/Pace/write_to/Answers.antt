use Rattle.std.proofs.Common.{subst}
use Rattle.kernel_runs.specs.Paces.{Covers, Suits}
use Rattle.kernel_runs.specs.declared.pace.Pace.{Pace}
use Rattle.kernel_runs.proofs.Passes.{covers_written}
use Rattle.kernel_runs.proofs.pace.Pace.write_to.Goals as goal

pub returns-in-Sweeps-clause-suits : goal.returns-in-Sweeps-clause-suits
returns-in-Sweeps-clause-suits c = λ circuit end suits.
    let covers : Covers c.in-Sweeps.sweeps circuit end = subst (λ (pace : Pace). Suits pace circuit end) c.in-Sweeps.is suits in
    covers_written c.in-Sweeps.sweeps c.write_to.new.self c.write_to.ensures.state covers
