use Rattle.gate_process.proofs.Reach.{next-end, next-sure, next-others, next-settled, next-waits}
use Rattle.gate_process.proofs.laws.lookahead.Goals as goal

pub returns-clause-never_back : goal.returns-clause-never_back
returns-clause-never_back c = λ process ok. ok.ahead

pub returns-clause-within : goal.returns-clause-within
returns-clause-within c = next-end

pub returns-clause-known_pins : goal.returns-clause-known_pins
returns-clause-known_pins c = next-sure

pub returns-clause-others : goal.returns-clause-others
returns-clause-others c = next-others

pub returns-clause-settled : goal.returns-clause-settled
returns-clause-settled c = next-settled

pub returns-clause-stops : goal.returns-clause-stops
returns-clause-stops c = λ process kind ok gate before. next-waits process kind gate ok.ahead before
