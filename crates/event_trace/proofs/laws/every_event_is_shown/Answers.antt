use Rattle.event_trace.specs.Trace.{trace_lines}
use Rattle.event_trace.proofs.ShownTexts.{shown_text-every}
use Rattle.event_trace.proofs.laws.every_event_is_shown.Goals as goal

pub returns : goal.returns
returns c = λ circuit end events. shown_text-every circuit (trace_lines circuit end events)
