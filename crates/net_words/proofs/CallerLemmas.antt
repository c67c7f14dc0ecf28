-- What crates above may cite of the lemmas of this one.
pub use Rattle.net_words.proofs.AllFound.{All-all_found, found_after, found_more, found_none, next}
pub use Rattle.net_words.proofs.RealNets.{IsNet-meant, IsNet-words}
