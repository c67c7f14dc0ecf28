use Rattle.std.proofs.Common.{refl, ap, ◌∙◌, zero-add}
use Rattle.event_trace.specs.Counted.{held}
use Rattle.event_trace.proofs.Tallies.{counted_trace}
use Rattle.event_trace.proofs.laws.lines_are_counted.Goals as goal

pub returns-clause-events : goal.returns-clause-events
returns-clause-events c circuit end events = (counted_trace circuit end events).events 0 refl ∙ ap held (zero-add _)

pub returns-clause-changes : goal.returns-clause-changes
returns-clause-changes c circuit end events = (counted_trace circuit end events).changes ∙ zero-add _

pub returns-clause-nulls : goal.returns-clause-nulls
returns-clause-nulls c circuit end events = (counted_trace circuit end events).nulls ∙ zero-add _

pub returns-clause-rounds : goal.returns-clause-rounds
returns-clause-rounds c circuit end events = (counted_trace circuit end events).rounds 0 refl ∙ ap held (zero-add _)
