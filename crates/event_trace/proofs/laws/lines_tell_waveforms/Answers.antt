use Rattle.event_trace.proofs.Waveforms.{waveform_told}
use Rattle.event_trace.proofs.laws.lines_tell_waveforms.Goals as goal

pub returns : goal.returns
returns c = λ circuit end events ok exist net below.
    waveform_told circuit ok end
    (record {
      sound = λ state sound. c.truth.ensures.steps circuit ok end state sound;
      falls = λ state sound. c.no_deadlock.ensures.falls circuit ok end state sound;
    })
    (c.truth.ensures.started circuit end) (λ state sound. c.no_deadlock.ensures.complete circuit ok end state sound) events exist net below
