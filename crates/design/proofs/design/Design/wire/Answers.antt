use Rattle.std.proofs.Common.{◌≡◌, ◌-◌, ◌<◌, length, get_or, slice_get, Some, ap, sym, ◌∙◌, arith}
use Rattle.design.specs.Pins.{first_pin, wires_of}
use Rattle.design.proofs.Numbers.{wire_there, first_pin_le}
use Rattle.design.proofs.Stored.{length-first_pins, first_pin_at, well_formed}
use Rattle.design.proofs.WellFormed.{IsCircuit-from_IsDesign}
use Rattle.design.proofs.design.Design.wire.Goals as goal
use Rattle.design.proofs.design.Design.wire.Goals.{After-wires_of}

pub index-requires : goal.index-requires
index-requires c = omega (arith, c.pin_net-net.ensures.within, length-first_pins c.self.invariant.joined c.self.view_is)

there : (c : After-wires_of) →
    (c.args.pin - c.index.result.now < length c.wires_of.result.now)
    × (slice_get (wires_of c.args.self.now.circuit) c.args.pin ≡ Some (get_or c.wires_of.result.now (c.args.pin - c.index.result.now) 0))
there c =
    wire_there c.args.self.now.circuit (IsCircuit-from_IsDesign c.args.self.now (well_formed c.self.invariant.joined c.self.view_is))
    c.args.pin c.pin_net-net.result _ _ c.requires c.pin_net-net.ensures.net
    (c.index.ensures ∙ first_pin_at c.self.invariant.joined c.self.view_is c.pin_net-net.result _ (omega (arith, c.pin_net-net.ensures.within)))
    c.wires_of.ensures

pub overflow_sub-place : goal.overflow_sub-place
overflow_sub-place c =
    let first = c.index.ensures ∙ first_pin_at c.self.invariant.joined c.self.view_is c.pin_net-net.result _ (omega (arith, c.pin_net-net.ensures.within)) in
    let same = ap (first_pin c.args.self.now.circuit) c.pin_net-net.ensures.net in
    omega (arith, first_pin_le c.args.self.now.circuit c.args.pin c.requires)

pub bounds-wires_of-place : goal.bounds-wires_of-place
bounds-wires_of-place c = let within = (there (goal.at.bounds-wires_of-place c).After-wires_of).0 in omega arith

pub returns : goal.returns
returns c = (there (goal.at.returns c).After-wires_of).1 ∙ ap Some (sym c.from.ensures)
