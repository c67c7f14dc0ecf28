-- What crates above may cite of the lemmas of this one.
pub use Rattle.timing_text.proofs.TimingsInRange.{HasTiming-properties_of, HasWires-properties_of, no_clocks-first_version, no_wires-first_version}
pub use Rattle.timing_text.proofs.StimuliInRange.{HasStimuli-stimuli_of}
