use Rattle.design.proofs.Solution.{equation_at_once, later-before, later-is, source_tick-is}
use Rattle.design.proofs.laws.wires.Goals as goal

pub returns-clause-source : goal.returns-clause-source
returns-clause-source c = source_tick-is

pub returns-clause-shown : goal.returns-clause-shown
returns-clause-shown c = later-is

pub returns-clause-before : goal.returns-clause-before
returns-clause-before c = later-before

pub returns-clause-at_once : goal.returns-clause-at_once
returns-clause-at_once c = equation_at_once
