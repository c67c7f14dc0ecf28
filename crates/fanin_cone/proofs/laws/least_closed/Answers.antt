use Rattle.fanin_cone.specs.Cone.{Passes}
use Rattle.fanin_cone.proofs.Least.{cone_closed, cone_holds, cone_least, cone_of_one, in_one_of}
use Rattle.fanin_cone.proofs.laws.least_closed.Goals as goal

pub returns-clause-closed : goal.returns-clause-closed
returns-clause-closed c = cone_closed

pub returns-clause-holds : goal.returns-clause-holds
returns-clause-holds c = cone_holds

pub returns-clause-least : goal.returns-clause-least
returns-clause-least c netlist names K closed holds name is = cone_least netlist names (Passes K) closed holds name is

pub returns-clause-together : goal.returns-clause-together
returns-clause-together c netlist names name = (cone_of_one netlist names name, in_one_of netlist names name)
