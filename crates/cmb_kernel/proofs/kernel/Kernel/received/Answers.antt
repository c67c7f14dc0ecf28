use Rattle.std.proofs.Common.{◌<◌, length, sym, subst}
use Rattle.cmb_kernel.proofs.Running.{process_below, some_pin, place_is, runs_at, place_within, received_is, received_in_time}
use Rattle.cmb_kernel.proofs.kernel.Kernel.received.Goals as goal

pub pin-requires-clause-place : goal.pin-requires-clause-place
pin-requires-clause-place g c =
    some_pin c.self.inside.design.now.circuit c.args.pin c.pin_net-net.result (rw (← c.self.view_is) at c.requires.pin) c.pin_net-net.ensures.net

pub overflow_sub-place : goal.overflow_sub-place
overflow_sub-place g c =
    (place_is c.self.inside.design.now.circuit c.args.pin c.pin_net-net.result c.pin.result (rw (← c.self.view_is) at c.requires.pin)
    c.pin_net-net.ensures.net c.pin.ensures.pin).0

pub of_net-requires : goal.of_net-requires
of_net-requires g c =
    let all = c.self.invariant (rw (← c.self.view_is) at c.requires.running) in
    process_below all c.pin_net-net.result c.pin_net-net.ensures.within

pub received-requires-clause-running : goal.received-requires-clause-running
received-requires-clause-running g c =
    let all = c.self.invariant (rw (← c.self.view_is) at c.requires.running) in
    (runs_at all c.pin_net-net.result c.of_net.result c.of_net.ensures).runs

pub received-requires-clause-place : goal.received-requires-clause-place
received-requires-clause-place g c =
    let all = c.self.invariant (rw (← c.self.view_is) at c.requires.running) in
    let place = (place_is c.self.inside.design.now.circuit c.args.pin c.pin_net-net.result c.pin.result (rw (← c.self.view_is) at c.requires.pin)
    c.pin_net-net.ensures.net c.pin.ensures.pin).1 in
    subst (λ at. at < length c.of_net.result.state.received) (sym place)
    (place_within all c.args.pin c.pin_net-net.result c.of_net.result (rw (← c.self.view_is) at c.requires.pin)
    c.pin_net-net.ensures.net c.of_net.ensures)

pub returns-clause-received : goal.returns-clause-received
returns-clause-received g c =
    let all = c.self.invariant (rw (← c.self.view_is) at c.requires.running) in
    let place = (place_is c.self.inside.design.now.circuit c.args.pin c.pin_net-net.result c.pin.result (rw (← c.self.view_is) at c.requires.pin)
    c.pin_net-net.ensures.net c.pin.ensures.pin).1 in
    rw (← c.self.view_is)
    (received_is all c.args.pin c.pin_net-net.result _ c.received.result c.of_net.result c.pin_net-net.ensures.net place
    c.of_net.ensures c.received.ensures)

pub returns-clause-within : goal.returns-clause-within
returns-clause-within g c =
    let all = c.self.invariant (rw (← c.self.view_is) at c.requires.running) in
    rw (← c.self.view_is)
    (received_in_time all c.pin_net-net.result _ c.received.result c.of_net.result c.of_net.ensures c.received.ensures)
