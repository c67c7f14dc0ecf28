-- What crates above may cite of the lemmas of this one.
pub use Rattle.gate_process.proofs.Drained.{drained_knows, drained_true}
pub use Rattle.gate_process.proofs.Events.{advanced_knows, get_below, get_of_map, heard_knows}
pub use Rattle.gate_process.proofs.Farther.{next-mono}
pub use Rattle.gate_process.proofs.Frontiers.{least-bound, least-le, least_greatest}
pub use Rattle.gate_process.proofs.Heard.{can_hear_change, can_hear_null}
pub use Rattle.gate_process.proofs.HeardAll.{can_hear_all, can_hear_first, wanted_there}
pub use Rattle.gate_process.proofs.Hears.{known_after-told, wanted-le}
pub use Rattle.gate_process.proofs.Kept.{get_of_kept}
pub use Rattle.gate_process.proofs.Lasting.{Lasting, lasts_advanced, lasts_drained, lasts_heard}
pub use Rattle.gate_process.proofs.Quiet.{no_news}
pub use Rattle.gate_process.proofs.Reach.{next-end, next-farther}
pub use Rattle.gate_process.proofs.Reckoned.{before_true, news_true, reckoned_true}
pub use Rattle.gate_process.proofs.SeenPins.{safe_greatest}
pub use Rattle.gate_process.proofs.Stays.{advanced_stays_true, quiet_true}
pub use Rattle.gate_process.proofs.Told.{HeardTruth, Tells-append, Tells-le, heard_truth, told_all_truth}
