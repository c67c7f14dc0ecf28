use Rattle.std.proofs.Common.{◌≡◌, ◌+◌, ◌<◌, length, slice_get, ap, sym, subst, ◌∙◌, arith}
use Rattle.std.specs.Option.{ForSome}
use Rattle.design.specs.Circuit.{Net}
use Rattle.design.specs.Pins.{first_pin, net_of_pin, place_of_pin}
use Rattle.design.proofs.CallerLemmas.{place_limit}
use Rattle.cmb_kernel.specs.State.{KernelView, received_at}
use Rattle.cmb_kernel.specs.Sweeps.{caught_up}
use Rattle.cmb_kernel.proofs.SweepLoops.{caught_up_here, knows_enough}
use Rattle.cmb_kernel.proofs.PinPlaces.{pin_there}
use Rattle.cmb_kernel.proofs.kernel.Kernel.catch_up.Given.{Over}
use Rattle.cmb_kernel.proofs.kernel.Kernel.catch_up.Goals as goal
use Rattle.cmb_kernel.proofs.kernel.Kernel.catch_up.Goals.{After-received_there}

-- the pin's net and its place there, as numbers of it
there : (g : Over) (c : After-received_there g) →
    (c.args.net ≡ net_of_pin c.loop-self.self.circuit c.pin-pin.result) × (c.args.place ≡ place_of_pin c.loop-self.self.circuit c.pin-pin.result)
there g c =
    let same = ap (λ (r : KernelView). r.circuit) c.loop-self.invariant.run in
    let pin : c.pin-pin.result ≡ first_pin c.args.self.now.circuit c.args.net + c.args.place =
    c.pin-pin.ensures.pin ∙ ap (λ (r : KernelView). first_pin r.circuit c.args.net + c.args.place) c.self.view_is in
    subst (λ circuit. (c.args.net ≡ net_of_pin circuit c.pin-pin.result) × (c.args.place ≡ place_of_pin circuit c.pin-pin.result)) (sym same)
    (pin_there c.args.self.now.circuit c.args.net c.args.place c.pin-pin.result c.requires.net c.requires.place pin)

pub overflow_cast-place : goal.overflow_cast-place
overflow_cast-place g c =
    let known = subst (λ (r : KernelView). c.args.net < length r.circuit) (sym c.self.view_is) c.requires.net in
    let inside = subst (λ (r : KernelView). ForSome (slice_get r.circuit c.args.net) (λ (n : Net). c.args.place < length n.pins)) (sym c.self.view_is)
    c.requires.place in
    let small = place_limit _ c.nets.ensures.well_formed c.args.net c.args.place known inside in
    omega arith

pub deliver_there-requires-clause-net : goal.deliver_there-requires-clause-net
deliver_there-requires-clause-net g c = (there g (goal.at.deliver_there-requires-clause-net g c).After-received_there).0

pub deliver_there-requires-clause-place : goal.deliver_there-requires-clause-place
deliver_there-requires-clause-place g c = (there g (goal.at.deliver_there-requires-clause-place g c).After-received_there).1

pub returns-after-loop-self-clause-ok : goal.returns-after-loop-self-clause-ok
returns-after-loop-self-clause-ok g c =
    let pin : c.pin-pin.result ≡ first_pin c.args.self.now.circuit c.args.net + c.args.place =
    c.pin-pin.ensures.pin ∙ ap (λ (r : KernelView). first_pin r.circuit c.args.net + c.args.place) c.self.view_is in
    let here : first_pin c.loop-self.self.circuit c.args.net + c.args.place ≡ c.pin-pin.result =
    ap (λ (r : KernelView). first_pin r.circuit c.args.net + c.args.place) c.loop-self.invariant.run ∙ sym pin in
    let received : c.received_there.result ≡ received_at c.loop-self.self.state c.pin-pin.result =
    subst (λ n. c.received_there.result ≡ received_at c.loop-self.self.state n) here c.received_there.ensures in
    let enough = c.loop-self-test.false in
    subst (λ n. c.loop-self.self ≡ record c.args.self.now { state = caught_up c.args.tick c.args.self.now.state n }) pin
    (caught_up_here c.loop-self.invariant (knows_enough c.args.tick c.loop-self.self.state c.pin-pin.result (omega (arith, received, enough))))
