use Rattle.std.proofs.Common.{arith}
use Rattle.design.proofs.Stored.{well_formed}
use Rattle.design.proofs.WellFormed.{IsCircuit-from_IsDesign}
use Rattle.design.proofs.design.Design.nets.Goals as goal

pub returns-clause-some : goal.returns-clause-some
returns-clause-some c = omega (arith, c.nets.ensures.nets, c.nets.ensures.well_formed.some_net)

pub returns-clause-most : goal.returns-clause-most
returns-clause-most c = omega (arith, c.nets.ensures.nets, c.nets.ensures.well_formed.net_limit)

pub returns-clause-circuit : goal.returns-clause-circuit
returns-clause-circuit c = IsCircuit-from_IsDesign c.args.self.now (well_formed c.self.invariant.joined c.self.view_is)
