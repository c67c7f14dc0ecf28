-- What crates above may cite of the lemmas of this one.
pub use Rattle.cmb_events.proofs.Existing.{events_of-exist, picks_of-exist}
