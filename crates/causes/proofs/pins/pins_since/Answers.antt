use Rattle.std.proofs.Common.{◌∙◌, arith, sym, ◌++◌, ◌∷◌, []}
use Rattle.std.proofs.lemmas.List.{take_more, take_all}
use Rattle.design.specs.Equations.{signals_in}
use Rattle.causes.specs.Deciding.{pins_since}
use Rattle.causes.proofs.PinLists.{length-since, since_at_place}
use Rattle.causes.proofs.pins.pins_since.Goals as goal

pub loop-place-preserved : goal.loop-place-preserved
loop-place-preserved c =
    let shown = pins_since (signals_in c.args.waves.now) c.args.tick c.args.pins.now c.args.wires.now in
    let long = length-since (signals_in c.args.waves.now) c.args.tick c.args.pins.now c.args.wires.now c.requires.wires in
    let here = since_at_place (signals_in c.args.waves.now) c.args.tick c.args.pins.now c.args.wires.now c.loop-place.place 0
    c.requires.wires (omega arith) in
    let more = take_more shown c.loop-place.place 0 (omega arith) in
    c.in_ok-push.ensures.items ∙ (λ i. c.loop-place.invariant i ++ (c.pin_since.ensures ∙ sym here) i ∷ []) ∙ sym more

pub returns : goal.returns
returns c =
    let long = length-since (signals_in c.args.waves.now) c.args.tick c.args.pins.now c.args.wires.now c.requires.wires in
    c.loop-place.invariant ∙ take_all c.loop-place.place _ (omega arith)
