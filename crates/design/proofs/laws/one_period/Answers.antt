use Rattle.design.specs.OnePeriod.{OnePeriodCircuit}
use Rattle.design.proofs.OnePeriod.{solves_periodic, only_periodic}
use Rattle.design.proofs.laws.one_period.Goals as goal

pub returns-clause-solves : goal.returns-clause-solves
returns-clause-solves c = λ (made : OnePeriodCircuit).
    solves_periodic made.netlist made.delays made.stimuli made.default_delay made.period made.first_version made.circuit made.is_netlist made.made

pub returns-clause-only : goal.returns-clause-only
returns-clause-only c = λ (made : OnePeriodCircuit).
    only_periodic made.netlist made.delays made.stimuli made.default_delay made.period made.first_version made.circuit made.is_netlist made.made
