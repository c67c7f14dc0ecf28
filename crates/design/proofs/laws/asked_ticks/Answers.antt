use Rattle.design.proofs.AskedTicks.{asked-early, asked-mono, asked-before, asked-from}
use Rattle.design.proofs.laws.asked_ticks.Goals as goal

pub returns-clause-earlier : goal.returns-clause-earlier
returns-clause-earlier c = λ net tick asked timed. asked-early net.timing net.part timed.timing.clock tick asked

pub returns-clause-rising : goal.returns-clause-rising
returns-clause-rising c = λ net tick late asked timed. asked-mono net.timing net.part timed.timing.clock tick late asked

pub returns-clause-before : goal.returns-clause-before
returns-clause-before c = λ net pin first tick asked timed. asked-before net.timing net.part timed.timing.clock pin first tick asked

pub returns-clause-from : goal.returns-clause-from
returns-clause-from c = λ net pin first tick timed. asked-from net.timing net.part timed.timing.clock pin first tick
