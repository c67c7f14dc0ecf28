use Rattle.kernel_runs.proofs.Passes.{GoesOn-none, GoesOn-trans}
use Rattle.kernel_runs.proofs.sweeps.sweep_loop.Goals as goal

pub loop-known-init : goal.loop-known-init
loop-known-init g c = GoesOn-none c.args.kernel.now c.requires.sound

pub loop-known-preserved : goal.loop-known-preserved
loop-known-preserved g c = GoesOn-trans c.loop-known.invariant c.in_ok-sweep_once.ensures.goes

pub returns-then-farther-known : goal.returns-then-farther-known
returns-then-farther-known g c = record { goes = GoesOn-trans c.loop-known.invariant c.in_ok-sweep_once.ensures.goes }
