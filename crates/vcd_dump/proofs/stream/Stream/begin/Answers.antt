use Rattle.std.proofs.Common.{length, arith}
use Rattle.vcd_dump.proofs.Few.{few_below}
use Rattle.vcd_dump.proofs.stream.Stream.begin.Goals as goal

pub prove-unreachable-requires : goal.prove-unreachable-requires
prove-unreachable-requires g c =
    let few = few_below (length c.args.design.now.circuit) c.args.shown.now c.requires.shown_exist c.requires.shown_once in
    omega (arith, few, c.nets.ensures.count, c.if-prove.true)
