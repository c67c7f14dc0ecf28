-- What crates above may cite of the lemmas of this one.
-- ---- reading
pub use Rattle.texts.proofs.FoldLemmas.{All-one_a_line, bind-Ok, fold_lines-keeps, fold_lines-next, length-one_a_line, unless_too_long-Ok, unless_too_long-short}
pub use Rattle.texts.proofs.Cuts.{list_any-has_words}
pub use Rattle.texts.proofs.ReadBack.{code_of-no_hash, number_of-decimal}
-- ---- writing
pub use Rattle.texts.proofs.Prefixes.{Appends-numbered, AppendsPrefix-after, AppendsPrefix-either, AppendsPrefix-longer, AppendsPrefix-numbered, AppendsPrefix-piece, AppendsPrefix-whole}
pub use Rattle.texts.proofs.GoingOut.{GoesOut-behind, GoesOut-broken, GoesOut-fault, GoesOut-next, GoesOut-sent, GoesOut-stopped, GoesOut-then}
