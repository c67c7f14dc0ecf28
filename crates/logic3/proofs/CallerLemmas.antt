-- What crates above may cite of the lemmas of this one.
pub use Rattle.logic3.proofs.Cuts.{IsCut, changes_below-between, changes_within-between, cut_tail, due_below, without_below-wave_of}
pub use Rattle.logic3.proofs.Equal.{is_same-true, is_same_change-Decides}
pub use Rattle.logic3.proofs.GateLemmas.{value_of_gate-Refines}
pub use Rattle.logic3.proofs.Results.{OnErr_always}
pub use Rattle.logic3.proofs.Rising.{Alternates-push, RisesBy-ascends, value_in_the_end-last}
pub use Rattle.logic3.proofs.Shown.{changes_between-value_after, one_change, quiet, value_after-ahead}
pub use Rattle.logic3.proofs.Waves.{All-wave_of, AllPairs-Alternates, Contains-wave_of_iff, IsWave-wave_of, change_at-some, changes_between-same, changes_between-split, joined-wave_of, last_value-wave_of, value_after-later, value_at-wave_of, value_in_the_end-append, wave_of-more, wave_of_iff}
