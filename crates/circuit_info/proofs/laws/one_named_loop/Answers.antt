use Rattle.circuit_info.proofs.NamedLoops.{one_named_loop, IsGateLoop-named, loop_without}
use Rattle.circuit_info.proofs.laws.one_named_loop.Goals as goal

pub returns-clause-one : goal.returns-clause-one
returns-clause-one c = one_named_loop

pub returns-clause-gates : goal.returns-clause-gates
returns-clause-gates c = IsGateLoop-named

pub returns-clause-without : goal.returns-clause-without
returns-clause-without c netlist nets is all = loop_without netlist nets is 0 is.some (all _)
