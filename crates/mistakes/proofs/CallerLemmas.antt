-- What crates above may cite of the lemmas of this one.
pub use Rattle.mistakes.proofs.Mapped.{list_any-map, map-filter}
