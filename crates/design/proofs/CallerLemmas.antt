-- What crates above may cite of the lemmas of this one.
pub use Rattle.design.proofs.Built.{IsDesign-design_of}
pub use Rattle.design.proofs.FedPins.{all_fed-at, length-all_fed, length-pins_fed, pins_fed-rising, pins_fed-within, take-source}
pub use Rattle.design.proofs.Feeding.{sources_below}
pub use Rattle.design.proofs.Joined.{net_named-circuit}
pub use Rattle.design.proofs.Numbers.{PinIs, length-sources, net_of_pin_below, pin_below, pin_count-cons, pin_is, pins_after, same_pin, source_at}
pub use Rattle.design.proofs.AskedTicks.{asked-before, asked-early, asked-from, asked-mono, asker-late, asker-mono, asker-none, unasked}
pub use Rattle.design.proofs.Parts.{length-pin_values, pin_value_at}
pub use Rattle.design.proofs.Passing.{listed_more, listed_same, passing_more}
pub use Rattle.design.proofs.Solution.{same_asked, same_later, same_pin_signals, same_values, source_tick-is, value_solves}
pub use Rattle.design.proofs.Stored.{length-circuit, net_limit, place_limit}
pub use Rattle.design.proofs.Ticks.{get_or-waves_of, length-waves_of, value_of-past}
pub use Rattle.design.proofs.WellFormed.{All-slice_get, IsCircuit-from_IsDesign, flop_arity, gate_arity, has_wires, net_with, pins_at, pins_below, takes_its_pins, timed_at}
