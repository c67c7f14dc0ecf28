use Rattle.std.proofs.Common.{arith}
use Rattle.circuit_info.proofs.PathNets.{latest_is}
use Rattle.circuit_info.proofs.path_nets.latest.Goals as goal

pub returns-clause-latest : goal.returns-clause-latest
returns-clause-latest c =
    latest_is c.args.ticks.now c.args.pins.now c.args.wires.now c.loop-place.latest c.requires.wires c.loop-place.invariant.within
    (λ other inside. c.loop-place.invariant.greatest other (omega (arith, inside, c.loop-place-test.false)) inside) c.loop-place.invariant.first
