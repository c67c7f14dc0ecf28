-- What crates above may cite of the lemmas of this one.
pub use Rattle.netlist.proofs.AllPins.{pins_exist, pins_few}
pub use Rattle.netlist.proofs.Among.{bytes_eq-other, bytes_eq-same, is_some-position, list_any-place, none_from_is_some}
pub use Rattle.netlist.proofs.Behind.{follows_between}
pub use Rattle.netlist.proofs.Distinct.{All-distinct, AllPairs-distinct, AllPairs-tail, distinct-same, distinct_push}
pub use Rattle.netlist.proofs.Gates.{flows_on, gate_within, no_gate_past, pins_within}
pub use Rattle.netlist.proofs.Joined.{named_nets-wired, zip_of_maps}
pub use Rattle.netlist.proofs.Marks.{fewer_unseen, seen_cases, seen_now, seen_still}
pub use Rattle.netlist.proofs.Named.{HasDistinctNames, map-named, names-differ, net_at-named, no_net}
pub use Rattle.netlist.proofs.NewName.{IsNames-push}
pub use Rattle.netlist.proofs.Pairs.{AllPairs-front, AllPairs-last}
pub use Rattle.netlist.proofs.Places.{All-from_no_position, position-map}
pub use Rattle.netlist.proofs.Sums.{sum_by-map}
pub use Rattle.netlist.proofs.Times.{contains_from_times, once_from_times, some_time, test_fails, the_count, times-append, times_push}
