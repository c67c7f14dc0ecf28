use Rattle.causes.proofs.Chain.{leads_within}
use Rattle.causes.proofs.WhyCauses.{is_why}
use Rattle.causes.proofs.laws.causes_lead_on.Goals as goal

pub returns-clause-why : goal.returns-clause-why
returns-clause-why c = λ circuit net tick ok. is_why circuit ok net tick

pub returns-clause-earlier : goal.returns-clause-earlier
returns-clause-earlier c = λ circuit cause from ok is. leads_within circuit ok cause from is
