use Rattle.std.proofs.Common.{◌≡◌, ◌+◌, [], length, get_or, option_map, Some, add-one, ap, ◌∙◌, arith}
use Rattle.std.proofs.lemmas.Option.{slice_get-get_or}
use Rattle.design.specs.Circuit.{Net}
use Rattle.design.specs.Pins.{first_pin}
use Rattle.design.specs.PickedDesign.{net_in}
use Rattle.design.proofs.Starts.{first_pin-next}
use Rattle.design.proofs.Stored.{length-first_pins, first_pin_at}
use Rattle.design.proofs.design.Design.fan_in.Goals as goal
use Rattle.design.proofs.design.Design.fan_in.Goals.{After-index}

pub index-end-requires : goal.index-end-requires
index-end-requires c = omega (arith, c.requires, length-first_pins c.self.invariant.joined c.self.view_is)

pub index-requires : goal.index-requires
index-requires c = omega (arith, c.requires, length-first_pins c.self.invariant.joined c.self.view_is)

next_is : (c : After-index) →
    c.index-end.result.now ≡ c.index.result.now + length (get_or c.args.self.now.circuit c.args.net (net_in [] 0)).pins
next_is c =
    let circuit = c.args.self.now.circuit in
    let begin = c.index.ensures ∙ first_pin_at c.self.invariant.joined c.self.view_is c.args.net _ (omega (arith, c.requires)) in
    let end = c.index-end.ensures ∙ first_pin_at c.self.invariant.joined c.self.view_is (c.args.net + 1) _ (omega (arith, c.requires)) in
    let next = ap (first_pin circuit) (add-one c.args.net) ∙ first_pin-next circuit c.args.net (net_in [] 0) c.requires in
    omega (arith, begin, end, next)

pub overflow_sub-result : goal.overflow_sub-result
overflow_sub-result c = omega (arith, next_is (goal.at.overflow_sub-result c).After-index)

pub returns : goal.returns
returns c =
    let circuit = c.args.self.now.circuit in
    let next = next_is (goal.at.returns c).After-index in
    ap (option_map (λ (n : Net). length n.pins)) (slice_get-get_or circuit c.args.net (net_in [] 0) c.requires)
    ∙ ap Some (omega (arith, next))
