use Rattle.std.proofs.Common.{◌≡◌, length, ◌∙◌, ap, sym, arith}
use Rattle.design.specs.Pins.{first_pin}
use Rattle.design.proofs.Starts.{first_pin-end}
use Rattle.design.proofs.Stored.{length-first_pins, length-circuit, first_pin_at, pin_limit, well_formed}
use Rattle.design.proofs.design.Design.pins.Goals as goal

pub index-requires : goal.index-requires
index-requires c =
    let long = length-first_pins c.self.invariant.joined c.self.view_is in
    let nets = length-circuit _ c.self.invariant.joined.well_formed in
    let all = ap (λ d. length d.circuit) c.self.view_is in
    omega (arith, c.nets.ensures.nets)

pub returns-clause-count : goal.returns-clause-count
returns-clause-count c =
    let nets : c.nets.result ≡ length c.args.self.now.circuit =
    c.nets.ensures.nets ∙ sym (length-circuit _ c.self.invariant.joined.well_formed) ∙ ap (λ d. length d.circuit) c.self.view_is in
    c.index.ensures ∙ first_pin_at c.self.invariant.joined c.self.view_is c.nets.result c.index.result.now (omega arith)
    ∙ ap (first_pin c.args.self.now.circuit) nets ∙ first_pin-end c.args.self.now.circuit

pub returns-clause-most : goal.returns-clause-most
returns-clause-most c =
    omega (arith, returns-clause-count c, pin_limit c.args.self.now (well_formed c.self.invariant.joined c.self.view_is))
