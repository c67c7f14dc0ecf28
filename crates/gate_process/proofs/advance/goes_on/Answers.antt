use Rattle.design.specs.Equations.{equation}
use Rattle.gate_process.specs.Knowledge.{seen_pins}
use Rattle.gate_process.specs.Step.{signals_of}
use Rattle.gate_process.proofs.Reach.{reach-goes_on}
use Rattle.gate_process.proofs.advance.goes_on.Goals as goal

pub returns : goal.returns
returns c =
    reach-goes_on (equation c.args.net.now (signals_of (seen_pins c.args.net.now.wires c.args.received.now))) c.args.span.end c.args.span.from
    c.args.span.sure c.requires.sure c.args.net.now.part c.requires.ahead c.stays.result
    (rw (← c.most-most.ensures) c.stays.ensures.yes) (rw (← c.most-most.ensures) c.stays.ensures.no)
