-- What crates above may cite of the lemmas of this one.
pub use Rattle.fanin_cone.proofs.Agreed.{value_agrees}
pub use Rattle.fanin_cone.proofs.ConesAlone.{names_alone, values_alone}
pub use Rattle.fanin_cone.proofs.KnownNames.{filter_map-known, first_unknown-known, numbers_below}
pub use Rattle.fanin_cone.proofs.Least.{cone_closed}
