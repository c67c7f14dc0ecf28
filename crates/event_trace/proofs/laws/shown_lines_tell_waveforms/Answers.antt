use Rattle.std.proofs.Common.{◌∙◌}
use Rattle.event_trace.specs.Trace.{trace_lines}
use Rattle.event_trace.proofs.LeftOut.{told_of-shown}
use Rattle.event_trace.proofs.laws.shown_lines_tell_waveforms.Goals as goal

pub returns : goal.returns
returns c = λ shown circuit end events ok exist net below shows.
    told_of-shown shown net shows (trace_lines circuit end events) ∙ c.lines_tell_waveforms.ensures circuit end events ok exist net below
