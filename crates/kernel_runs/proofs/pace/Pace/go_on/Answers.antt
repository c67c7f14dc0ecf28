use Rattle.std.proofs.Common.{ap, subst, ◌∙◌}
use Rattle.cmb_kernel.specs.State.{KernelView, floor_at}
use Rattle.cmb_kernel.proofs.CallerLemmas.{round_floor}
use Rattle.kernel_runs.specs.Paces.{Covers, Suits}
use Rattle.kernel_runs.specs.declared.pace.Pace.{Pace}
use Rattle.kernel_runs.proofs.Passes.{still_covers}
use Rattle.kernel_runs.proofs.pace.Pace.go_on.Goals as goal

pub returns-in_ok-round-in-Rounds-clause-floors : goal.returns-in_ok-round-in-Rounds-clause-floors
returns-in_ok-round-in-Rounds-clause-floors c = λ net.
    ap (λ (k : KernelView). floor_at k.state net) c.in_ok-round-in-Rounds.ensures.ok ∙ round_floor c.args.kernel.now.state net

pub returns-in_ok-sweep-in-Sweeps-clause-suits : goal.returns-in_ok-sweep-in-Sweeps-clause-suits
returns-in_ok-sweep-in-Sweeps-clause-suits c =
    let now = c.args.kernel.now in
    let covers : Covers c.in-Sweeps.sweeps now.circuit now.end =
    subst (λ (pace : Pace). Suits pace now.circuit now.end) c.in-Sweeps.is c.requires.suits in
    still_covers c.in-Sweeps.sweeps c.sweep.new.self c.in_ok-sweep-in-Sweeps.ensures.width c.in_ok-sweep-in-Sweeps.ensures.goes covers
