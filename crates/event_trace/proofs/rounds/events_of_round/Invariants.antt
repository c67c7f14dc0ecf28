-- The events so far and those to come are all.
use Rattle.std.proofs.Common.{◌≡◌, ◌++◌, drop, length}
use Rattle.cmb_kernel.specs.Step.{deliveries_from}
use Rattle.event_trace.proofs.Walking.{advances_from}
use Rattle.event_trace.proofs.rounds.events_of_round.Given as goal

abbrev pub invariant-loop-pin : goal.invariant-loop-pin
invariant-loop-pin l =
    l.events.items ++ deliveries_from l.pin (drop l.pin l.kernel.state.lists) ≡ deliveries_from 0 l.kernel.state.lists

abbrev pub invariant-loop-net : goal.invariant-loop-net
invariant-loop-net l =
    l.events.items ++ advances_from l.net (length l.design.circuit)
    ≡ deliveries_from 0 l.kernel.state.lists ++ advances_from 0 (length l.design.circuit)
