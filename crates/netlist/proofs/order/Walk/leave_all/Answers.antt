use Rattle.std.proofs.Common.{◌∷◌, [], ◌++◌, ap, ◌∙◌, subst, arith, ◌<◌, length, get_or}
use Rattle.std.proofs.lemmas.List.{length_push}
use Rattle.netlist.specs.Marks.{unseen}
use Rattle.netlist.proofs.Marks.{fewer_unseen, seen_still}
use Rattle.netlist.specs.Walk.{IsWalk}
use Rattle.netlist.proofs.Gates.{pins_within}
use Rattle.netlist.proofs.Walking.{IsWalk-on, IsWalk-leave, last_below, last_looked}
use Rattle.netlist.proofs.order.Walk.leave_all.Goals as goal
use Rattle.netlist.proofs.order.Walk.leave_all.Goals.{In-Some}

-- the walk, whose path ends with the step at hand
walk_at : (c : In-Some) →
    IsWalk c.args.netlist.now.nets c.loop-step.self.seen.items (c.pop.new.self.items ++ c.in-Some.step ∷ []) c.loop-step.self.left.items
walk_at c =
    subst (λ path. IsWalk c.args.netlist.now.nets c.loop-step.self.seen.items path c.loop-step.self.left.items) c.in-Some.ensures.items c.loop-step.invariant.walk

pub pins_of-pins-requires : goal.pins_of-pins-requires
pins_of-pins-requires c = last_below c.pop.new.self.items c.in-Some.step (walk_at (goal.at.pins_of-pins-requires c).In-Some)

pub first_unseen-place-requires-clause-pins : goal.first_unseen-place-requires-clause-pins
first_unseen-place-requires-clause-pins c =
    rw (c.as_slice.ensures.value, c.loop-step.invariant.walk.size) (pins_within c.args.netlist.now c.requires.formed c.in-Some.step.gate _ c.pins_of-pins.ensures)

pub first_unseen-place-requires-clause-before : goal.first_unseen-place-requires-clause-before
first_unseen-place-requires-clause-before c =
    rw c.as_slice.ensures.value (last_looked c.pop.new.self.items c.in-Some.step (walk_at (goal.at.first_unseen-place-requires-clause-before c).In-Some) _ c.pins_of-pins.ensures)

pub enter-requires : goal.enter-requires
enter-requires c =
    rw c.loop-step.invariant.walk.size (pins_within c.args.netlist.now c.requires.formed c.in-Some.step.gate _ c.pins_of-pins.ensures c.first_unseen-place.result 0 c.if-place-pins.false)

pub loop-step-smaller : goal.loop-step-smaller
loop-step-smaller c =
    let below : get_or c.pins_of-pins.result.now c.first_unseen-place.result 0 < length c.loop-step.self.seen.items = rw c.loop-step.invariant.walk.size (pins_within c.args.netlist.now c.requires.formed c.in-Some.step.gate _ c.pins_of-pins.ensures c.first_unseen-place.result 0 c.if-place-pins.false) in
    let new = rw c.as_slice.ensures.value at (c.first_unseen-place.ensures.unseen c.if-place-pins.false) in
    let fewer = ap unseen c.in_ok-enter.ensures.seen in
    let path = ap length c.in_ok-enter.ensures.path ∙ length_push c.push-in-Some.new.self.items _ in
    let pushed = ap length c.in_ok-push-2.ensures.items ∙ length_push c.pop.new.self.items _ in
    let was = ap length c.in-Some.ensures.items in
    omega (arith, fewer, fewer_unseen c.loop-step.self.seen.items _ below new, path, pushed, was, length_push c.pop.new.self.items c.in-Some.step)

pub loop-step-preserved : goal.loop-step-preserved
loop-step-preserved c =
    let walk = walk_at (goal.at.loop-step-preserved c).In-Some in
    let within = pins_within c.args.netlist.now c.requires.formed c.in-Some.step.gate _ c.pins_of-pins.ensures c.first_unseen-place.result 0 c.if-place-pins.false in
    let here : get_or c.pins_of-pins.result.now c.first_unseen-place.result 0 < length c.loop-step.self.seen.items = rw c.loop-step.invariant.walk.size within in
    let before = rw c.as_slice.ensures.value at c.first_unseen-place.ensures.seen in
    let new = rw c.as_slice.ensures.value at (c.first_unseen-place.ensures.unseen c.if-place-pins.false) in
    rw (c.in_ok-enter.ensures.seen, c.in_ok-enter.ensures.path, c.in_ok-enter.ensures.left, c.in_ok-push-2.ensures.items) (record {
      walk = IsWalk-on c.pop.new.self.items c.in-Some.step walk _ c.pins_of-pins.ensures c.first_unseen-place.result before c.if-place-pins.false within new;
      kept = λ net was. seen_still c.loop-step.self.seen.items _ here net (c.loop-step.invariant.kept net was);
    })

pub loop-step-preserved-then-place-pins : goal.loop-step-preserved-then-place-pins
loop-step-preserved-then-place-pins c =
    let before = rw c.as_slice.ensures.value at c.first_unseen-place.ensures.seen in
    record {
      walk = rw c.in_ok-push.ensures.items (IsWalk-leave c.pop.new.self.items c.in-Some.step (walk_at (goal.at.loop-step-preserved-then-place-pins c).In-Some) _ c.pins_of-pins.ensures
          c.first_unseen-place.result before c.if-place-pins.true);
      kept = c.loop-step.invariant.kept;
    }
