use Rattle.std.proofs.Common.{sym, subst, arith}
use Rattle.cmb_kernel.specs.Sweeps.{HoldsAll}
use Rattle.kernel_runs.proofs.Streamed.{least_within}
use Rattle.kernel_runs.proofs.sweeps.Sweeps.sweep.Goals as goal

pub pass-requires-clause-all : goal.pass-requires-clause-all
pass-requires-clause-all g c = subst (HoldsAll c.args.kernel.now.circuit) (sym c.as_slice.ensures.value) c.requires.covers.all

pub pass-requires-clause-in_time : goal.pass-requires-clause-in_time
pass-requires-clause-in_time g c =
    omega (arith, least_within c.args.kernel.now, c.requires.covers.to_end, c.requires.known, c.reach-tick.ensures)
