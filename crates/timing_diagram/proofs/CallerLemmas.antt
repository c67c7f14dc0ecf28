-- What crates above may cite of the lemmas of this one.
pub use Rattle.timing_diagram.proofs.Alike.{drawing-same}
pub use Rattle.timing_diagram.proofs.Pages.{is_too_long-same}
