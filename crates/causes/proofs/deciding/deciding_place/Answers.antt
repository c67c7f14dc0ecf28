use Rattle.std.proofs.Common.{arith, length, sym, ◌∙◌}
use Rattle.logic3.specs.Value.{is_same}
use Rattle.causes.proofs.Places.{any_place, deciding_value-shown, first_greatest-within, some_pin}
use Rattle.causes.proofs.deciding.deciding_place.Goals as goal

pub returns-in-Some-clause-within : goal.returns-in-Some-clause-within
returns-in-Some-clause-within c =
    let some = deciding_value-shown c.args.kind c.args.values.now c.in-Some.value c.requires.arity (sym c.deciding_value.ensures ∙ c.in-Some.is) in
    let within = any_place (is_same c.in-Some.value) c.args.values.now some in
    omega (arith, within, c.place_of.ensures)

pub returns-in-None-clause-within : goal.returns-in-None-clause-within
returns-in-None-clause-within c =
    let some = some_pin c.args.kind (length c.args.values.now) c.requires.arity in
    let within = first_greatest-within c.args.since.now (omega (arith, some, c.requires.each)) in
    let top = c.greatest.ensures in
    let place = rw top at c.place_of_tick.ensures in
    omega (arith, within, place, c.requires.each)
