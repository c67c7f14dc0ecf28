use Rattle.std.proofs.Common.{◌+◌, arith}
use Rattle.circuit_info.proofs.Longest.{delay_is, delay_small}
use Rattle.circuit_info.proofs.paths.gate_ticks.Goals as goal

pub overflow_add-result : goal.overflow_add-result
overflow_add-result c =
    omega (
      arith,
      c.pin_ticks.ensures.few,
      delay_is c.args.design.now c.requires.formed c.args.gate c.delay.result c.delay.ensures,
      delay_small c.args.design.now c.requires.formed c.args.gate,
    )

pub returns : goal.returns
returns c =
    let delay = delay_is c.args.design.now c.requires.formed c.args.gate c.delay.result c.delay.ensures in
    λ i. c.pin_ticks.ensures.last i + delay i
