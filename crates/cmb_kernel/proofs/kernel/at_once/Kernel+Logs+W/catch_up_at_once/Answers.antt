use Rattle.std.proofs.Common.{◌≡◌, ◌+◌, ◌<◌, length, slice_get, ap, sym, subst, ◌∙◌, arith}
use Rattle.std.specs.Option.{ForSome}
use Rattle.design.specs.Circuit.{Net}
use Rattle.design.specs.Pins.{first_pin, net_of_pin, place_of_pin}
use Rattle.design.proofs.CallerLemmas.{place_limit}
use Rattle.cmb_kernel.specs.State.{KernelView}
use Rattle.cmb_kernel.proofs.PinPlaces.{pin_there}
use Rattle.cmb_kernel.proofs.kernel.at_once.Kernel+Logs+W.catch_up_at_once.Given.{Over}
use Rattle.cmb_kernel.proofs.kernel.at_once.Kernel+Logs+W.catch_up_at_once.Goals as goal
use Rattle.cmb_kernel.proofs.kernel.at_once.Kernel+Logs+W.catch_up_at_once.Goals.{After-pin-pin}

pub overflow_cast-place : goal.overflow_cast-place
overflow_cast-place g c =
    let known = subst (λ (r : KernelView). c.args.net < length r.circuit) (sym c.self.view_is) c.requires.net in
    let inside = subst (λ (r : KernelView). ForSome (slice_get r.circuit c.args.net) (λ (n : Net). c.args.place < length n.pins)) (sym c.self.view_is)
    c.requires.place in
    let small = place_limit _ c.nets.ensures.well_formed c.args.net c.args.place known inside in
    omega arith

-- the pin's net and its place there, as numbers of it
there : (g : Over) (c : After-pin-pin g) →
    (c.args.net ≡ net_of_pin c.args.self.now.circuit c.pin-pin.result) × (c.args.place ≡ place_of_pin c.args.self.now.circuit c.pin-pin.result)
there g c =
    pin_there c.args.self.now.circuit c.args.net c.args.place c.pin-pin.result c.requires.net c.requires.place
    (c.pin-pin.ensures.pin ∙ ap (λ (r : KernelView). first_pin r.circuit c.args.net + c.args.place) c.self.view_is)

pub take_below-requires-clause-net : goal.take_below-requires-clause-net
take_below-requires-clause-net g c = (there g (goal.at.take_below-requires-clause-net g c).After-pin-pin).0

pub take_below-requires-clause-place : goal.take_below-requires-clause-place
take_below-requires-clause-place g c = (there g (goal.at.take_below-requires-clause-place g c).After-pin-pin).1
