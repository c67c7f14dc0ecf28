use Rattle.std.proofs.Common.{◌≤◌, arith}
use Rattle.std.proofs.lemmas.List.Elements.{All-more}
use Rattle.std.proofs.lemmas.List.{take_all}
use Rattle.cmb_kernel.specs.State.{frontier_at}
use Rattle.kernel_runs.proofs.Passes.{all_less}
use Rattle.kernel_runs.proofs.sweeps.known_of.Goals as goal

pub loop-net-preserved : goal.loop-net-preserved
loop-net-preserved g c =
    let state = c.args.kernel.now.state in
    record {
      within = omega (arith, c.loop-net.invariant.within, c.min-known.ensures);
      each = All-more (λ net. c.min-known.result ≤ frontier_at state net) c.args.nets.now c.loop-net.net-index 0 (omega (arith, c.loop-net-test.true))
          (all_less state c.loop-net.known c.min-known.result _ (omega (arith, c.min-known.ensures)) c.loop-net.invariant.each)
          (omega (arith, c.min-known.ensures, c.frontier.ensures.frontier));
    }

pub returns-clause-each : goal.returns-clause-each
returns-clause-each g c =
    rw (← take_all c.loop-net.net-index c.args.nets.now (omega (arith, c.loop-net-test.false))) c.loop-net.invariant.each
