use Rattle.std.proofs.Common.{rules, length, ◌<◌, ◌≤◌, subst}
use Rattle.logic3.specs.Value.{is_same}
use Rattle.causes.proofs.Places.{any_by_place, none_by_place}
use Rattle.causes.proofs.deciding.deciding_value.Goals as goal

pub returns-then-place_of-values : goal.returns-then-place_of-values
returns-then-place_of-values c =
    let some = any_by_place (is_same c.in_ok-value.value) c.args.values.now (subst (λ n. n < length c.args.values.now) c.place_of.ensures c.if-place_of-values.true) in
    search (rules, some)

pub returns-else-place_of-values : goal.returns-else-place_of-values
returns-else-place_of-values c =
    let none = none_by_place (is_same c.in_ok-value.value) c.args.values.now (subst (λ n. length c.args.values.now ≤ n) c.place_of.ensures c.if-place_of-values.false) in
    search (rules, none)
