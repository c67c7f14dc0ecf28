use Rattle.std.proofs.Common.{arith, ◌≡◌, ◌∙◌, ap, sym, length, subst}
use Rattle.logic3.specs.Gate.{HasArity}
use Rattle.design.specs.Equations.{signals_in}
use Rattle.design.proofs.CallerLemmas.{length-pin_values}
use Rattle.causes.proofs.PinLists.{length-since}
use Rattle.causes.proofs.reasons.gate_reason.Goals as goal

pub deciding_place-requires-clause-arity : goal.deciding_place-requires-clause-arity
deciding_place-requires-clause-arity c =
    let long = length-pin_values (signals_in c.args.waves.now) c.in-Some.at c.args.pins.now c.args.wires.now c.requires.wires in
    let same : length c.as_slice.result.now ≡ length c.args.pins.now = ap length (c.as_slice.ensures.value ∙ c.in_ok-values.ensures) ∙ long in
    subst (HasArity c.args.kind) (sym same) c.requires.arity

pub deciding_place-requires-clause-each : goal.deciding_place-requires-clause-each
deciding_place-requires-clause-each c =
    let long = length-pin_values (signals_in c.args.waves.now) c.in-Some.at c.args.pins.now c.args.wires.now c.requires.wires in
    let same : length c.as_slice.result.now ≡ length c.args.pins.now = ap length (c.as_slice.ensures.value ∙ c.in_ok-values.ensures) ∙ long in
    let since = length-since (signals_in c.args.waves.now) c.in-Some.at c.args.pins.now c.args.wires.now c.requires.wires in
    let other : length c.as_slice-2.result.now ≡ length c.args.pins.now = ap length (c.as_slice-2.ensures.value ∙ c.in_ok-since.ensures) ∙ since in
    other ∙ sym same

pub pin_reason-requires : goal.pin_reason-requires
pin_reason-requires c =
    let long = length-pin_values (signals_in c.args.waves.now) c.in-Some.at c.args.pins.now c.args.wires.now c.requires.wires in
    let same : length c.as_slice.result.now ≡ length c.args.pins.now = ap length (c.as_slice.ensures.value ∙ c.in_ok-values.ensures) ∙ long in
    omega (arith, c.deciding_place.ensures.within, same, c.requires.wires)
