use Rattle.std.proofs.Common.{arith}
use Rattle.netlist.proofs.Joined.{length-named_nets}
use Rattle.netlist.proofs.netlist.Netlist.nets.Goals as goal

pub overflow_cast-result : goal.overflow_cast-result
overflow_cast-result c =
    omega (arith, length-named_nets _ _ c.self.invariant.joined.same_length, c.self.invariant.joined.well_formed.net_limit)

pub returns-clause-nets : goal.returns-clause-nets
returns-clause-nets c = rw (← c.self.view_is) (omega (arith, length-named_nets _ _ c.self.invariant.joined.same_length))
