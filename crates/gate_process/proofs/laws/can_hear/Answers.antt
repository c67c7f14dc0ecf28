use Rattle.gate_process.proofs.Heard.{can_hear_change, can_hear_null}
use Rattle.gate_process.proofs.laws.can_hear.Goals as goal

pub returns-clause-change : goal.returns-clause-change
returns-clause-change c = λ process place frontier last change ok goes_on.
    can_hear_change process place frontier last change ok goes_on.frontier_is goes_on.last_is goes_on.later goes_on.within goes_on.differs

pub returns-clause-null : goal.returns-clause-null
returns-clause-null c = can_hear_null
