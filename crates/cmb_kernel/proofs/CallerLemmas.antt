-- What crates above may cite of the lemmas of this one.
pub use Rattle.cmb_kernel.proofs.Alike.{alike_drain, alike_least, alike_round}
pub use Rattle.cmb_kernel.proofs.Completion.{frontier_when_complete, is_complete-from, is_complete-true, least_tells}
pub use Rattle.cmb_kernel.proofs.Enough.{falls}
pub use Rattle.cmb_kernel.proofs.LeastFrontier.{least_frontier-le, least_frontier_greatest, net_count, round_exists, round_sound, steps-append}
pub use Rattle.cmb_kernel.proofs.Mixed.{steps_floor}
pub use Rattle.cmb_kernel.proofs.Order.{completed_sound, completes, rounds_end, shows_as_rounds}
pub use Rattle.cmb_kernel.proofs.Running.{place_is, some_pin}
pub use Rattle.cmb_kernel.proofs.Soundness.{meets, net_at, started_frontier, started_sound, steps_sound}
pub use Rattle.cmb_kernel.proofs.Sweeping.{of_contained}
pub use Rattle.cmb_kernel.proofs.Together.{RoundsAlike, floor_elsewhere, no_round_yet, round_floor, round_more, same_counts, started_floor, still_alike}
pub use Rattle.cmb_kernel.proofs.UsefulEvents.{rises_by_delay}
