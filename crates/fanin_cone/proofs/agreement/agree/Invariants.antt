use Rattle.std.proofs.Common.{take, All}
use Rattle.netlist.specs.Netlist.{name_at}
use Rattle.fanin_cone.specs.Agreement.{AgreesAt}
use Rattle.fanin_cone.proofs.agreement.agree.Given as goal

abbrev pub invariant-loop-net : goal.invariant-loop-net
invariant-loop-net l = All (λ net. AgreesAt l.first l.second l.horizon (name_at l.first.netlist net)) (take l.net-index l.net-items)
