-- What crates above may cite of the lemmas of this one.
pub use Rattle.wave_diff.proofs.FirstDifference.{first_difference-None, first_difference-same}
