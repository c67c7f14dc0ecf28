use Rattle.cmb_kernel.proofs.Running.{some_pin, place_is}
use Rattle.cmb_kernel.proofs.kernel.Kernel.deliver.Goals as goal

pub pin-requires-clause-place : goal.pin-requires-clause-place
pin-requires-clause-place g c =
    some_pin c.self.inside.design.now.circuit c.args.pin c.pin_net-net.result (rw (← c.self.view_is) at c.requires.exists) c.pin_net-net.ensures.net

pub overflow_sub-place : goal.overflow_sub-place
overflow_sub-place g c =
    (place_is c.self.inside.design.now.circuit c.args.pin c.pin_net-net.result c.pin.result (rw (← c.self.view_is) at c.requires.exists)
    c.pin_net-net.ensures.net c.pin.ensures.pin).0

pub deliver_there-requires-clause-place : goal.deliver_there-requires-clause-place
deliver_there-requires-clause-place g c =
    rw (← c.self.view_is) (place_is c.self.inside.design.now.circuit c.args.pin c.pin_net-net.result c.pin.result (rw (← c.self.view_is) at c.requires.exists)
    c.pin_net-net.ensures.net c.pin.ensures.pin).1
