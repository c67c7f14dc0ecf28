use Rattle.std.proofs.Common.{sym, ◌∙◌}
use Rattle.event_trace.proofs.ShownTexts.{shows_further}
use Rattle.event_trace.proofs.shown_events.ShownEvents.shows.Goals as goal

pub returns-else-self : goal.returns-else-self
returns-else-self c = λ changes.
    shows_further c.args.self c.args.net changes c.args.from c.args.to (sym c.shows_net.ensures ∙ c.if-shows_net.true) c.if-self.false
