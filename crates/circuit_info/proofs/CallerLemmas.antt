-- What crates above may cite of the lemmas of this one.
pub use Rattle.circuit_info.proofs.Infos.{one_info}
pub use Rattle.circuit_info.proofs.Members.{same_from_members}
pub use Rattle.circuit_info.proofs.OneText.{one_info_text}
