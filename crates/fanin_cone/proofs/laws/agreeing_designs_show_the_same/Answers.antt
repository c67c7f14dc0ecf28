use Rattle.fanin_cone.specs.Cone.{Passes, InCone}
use Rattle.fanin_cone.proofs.Agreed.{value_agrees}
use Rattle.fanin_cone.proofs.Least.{cone_closed}
use Rattle.fanin_cone.proofs.laws.agreeing_designs_show_the_same.Goals as goal

pub returns-clause-closed : goal.returns-clause-closed
returns-clause-closed c a b K horizon closed designs name in_set m n tick =
    value_agrees a b designs.first designs.second (Passes K) horizon closed designs.agree name m n tick in_set

pub returns-clause-cone : goal.returns-clause-cone
returns-clause-cone c a b names horizon designs name in_cone m n tick =
    let closed = cone_closed a.netlist names in
    value_agrees a b designs.first designs.second (InCone a.netlist names) horizon closed designs.agree name m n tick in_cone
