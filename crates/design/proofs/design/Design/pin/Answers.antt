use Rattle.std.proofs.Common.{◌≡◌, ◌+◌, ◌<◌, ◌≤◌, ◌∙◌, arith}
use Rattle.design.specs.Circuit.{pin_count}
use Rattle.design.specs.Pins.{first_pin}
use Rattle.design.proofs.Numbers.{pin_within}
use Rattle.design.proofs.Stored.{length-first_pins, first_pin_at, pin_limit, well_formed}
use Rattle.design.proofs.design.Design.pin.Goals as goal
use Rattle.design.proofs.design.Design.pin.Goals.{After-index}

pub index-requires : goal.index-requires
index-requires c = omega (arith, c.requires.net, length-first_pins c.self.invariant.joined c.self.view_is)

first_is : (c : After-index) → c.index.result.now ≡ first_pin c.args.self.now.circuit c.args.net
first_is c = c.index.ensures ∙ first_pin_at c.self.invariant.joined c.self.view_is c.args.net _ (omega (arith, c.requires.net))

within : (c : After-index) → first_pin c.args.self.now.circuit c.args.net + c.args.place < pin_count c.args.self.now.circuit
within c = pin_within c.args.self.now.circuit c.args.net c.args.place c.requires.net c.requires.place

limit : (c : After-index) → pin_count c.args.self.now.circuit ≤ 1_000_000
limit c = pin_limit c.args.self.now (well_formed c.self.invariant.joined c.self.view_is)

pub overflow_add-result : goal.overflow_add-result
overflow_add-result c =
    let known = (goal.at.overflow_add-result c).After-index in omega (arith, first_is known, within known, limit known)

pub returns-clause-pin : goal.returns-clause-pin
returns-clause-pin c = omega (arith, first_is (goal.at.returns-clause-pin c).After-index)

pub returns-clause-within : goal.returns-clause-within
returns-clause-within c =
    let known = (goal.at.returns-clause-within c).After-index in omega (arith, first_is known, within known)
