use Rattle.mistakes.proofs.LineFronts.{begins_some-past, begins_some-within}
use Rattle.mistakes.proofs.laws.place_is_where_forms_end.Goals as goal

pub returns-clause-up_to : goal.returns-clause-up_to
returns-clause-up_to c = λ forms tokens n some within. begins_some-within forms tokens n some within

pub returns-clause-beyond : goal.returns-clause-beyond
returns-clause-beyond c = λ forms tokens n past within. begins_some-past forms tokens n past within
