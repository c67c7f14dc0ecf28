use Rattle.causes.proofs.LastTicks.{since-changed, since-holds}
use Rattle.causes.proofs.SwingStarts.{swing-begins, swing-holds}
use Rattle.causes.proofs.laws.values_last.Goals as goal

pub returns-clause-holds : goal.returns-clause-holds
returns-clause-holds c = since-holds

pub returns-clause-changed : goal.returns-clause-changed
returns-clause-changed c = since-changed

pub returns-clause-swings : goal.returns-clause-swings
returns-clause-swings c = swing-holds

pub returns-clause-begins : goal.returns-clause-begins
returns-clause-begins c = swing-begins
