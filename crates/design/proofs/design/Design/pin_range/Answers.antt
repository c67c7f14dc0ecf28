use Rattle.std.proofs.Common.{◌≡◌, ◌+◌, [], length, get_or, option_map, Some, add-one, ap, ◌∙◌, arith}
use Rattle.std.proofs.lemmas.Option.{slice_get-get_or}
use Rattle.design.specs.Circuit.{Net}
use Rattle.design.specs.Pins.{first_pin}
use Rattle.design.specs.PickedDesign.{net_in}
use Rattle.design.proofs.Numbers.{pins_after}
use Rattle.design.proofs.Starts.{first_pin-next}
use Rattle.design.proofs.Stored.{length-first_pins, first_pin_at, pin_limit, well_formed}
use Rattle.design.proofs.design.Design.pin_range.Goals as goal
use Rattle.design.proofs.design.Design.pin_range.Goals.{After-index-start}

pub index-end-requires : goal.index-end-requires
index-end-requires c = omega (arith, c.requires, length-first_pins c.self.invariant.joined c.self.view_is)

pub index-start-requires : goal.index-start-requires
index-start-requires c = omega (arith, c.requires, length-first_pins c.self.invariant.joined c.self.view_is)

next_is : (c : After-index-start) →
    c.index-end.result.now ≡ c.index-start.result.now + length (get_or c.args.self.now.circuit c.args.net (net_in [] 0)).pins
next_is c =
    let circuit = c.args.self.now.circuit in
    let begin = c.index-start.ensures ∙ first_pin_at c.self.invariant.joined c.self.view_is c.args.net _ (omega (arith, c.requires)) in
    let end = c.index-end.ensures ∙ first_pin_at c.self.invariant.joined c.self.view_is (c.args.net + 1) _ (omega (arith, c.requires)) in
    let next = ap (first_pin circuit) (add-one c.args.net) ∙ first_pin-next circuit c.args.net (net_in [] 0) c.requires in
    omega (arith, begin, end, next)

pub returns-clause-start : goal.returns-clause-start
returns-clause-start c =
    c.index-start.ensures ∙ first_pin_at c.self.invariant.joined c.self.view_is c.args.net _ (omega (arith, c.requires))

pub returns-clause-end : goal.returns-clause-end
returns-clause-end c =
    let circuit = c.args.self.now.circuit in
    let begin = c.index-start.ensures ∙ first_pin_at c.self.invariant.joined c.self.view_is c.args.net _ (omega (arith, c.requires)) in
    let next = next_is (goal.at.returns-clause-end c).After-index-start in
    ap (option_map (λ (n : Net). first_pin circuit c.args.net + length n.pins))
    (slice_get-get_or circuit c.args.net (net_in [] 0) c.requires)
    ∙ ap Some (omega (arith, begin, next))

pub returns-clause-rising : goal.returns-clause-rising
returns-clause-rising c = omega (arith, next_is (goal.at.returns-clause-rising c).After-index-start)

pub returns-clause-within : goal.returns-clause-within
returns-clause-within c =
    let circuit = c.args.self.now.circuit in
    let begin = c.index-start.ensures ∙ first_pin_at c.self.invariant.joined c.self.view_is c.args.net _ (omega (arith, c.requires)) in
    omega (
      arith,
      begin,
      next_is (goal.at.returns-clause-within c).After-index-start,
      pins_after circuit c.args.net _ (slice_get-get_or circuit c.args.net (net_in [] 0) c.requires),
    )

pub returns-clause-most : goal.returns-clause-most
returns-clause-most c = pin_limit c.args.self.now (well_formed c.self.invariant.joined c.self.view_is)
