use Rattle.std.proofs.Common.{Some, get_or, ap, ◌∙◌, arith, slice_get}
use Rattle.std.specs.Option.{option_map_or}
use Rattle.design.specs.Samples.{asked_of_part}
use Rattle.design.specs.Equations.{later, signals_in}
use Rattle.design.proofs.WellFormed.{gate_arity, flop_arity, pins_below, has_timing, has_wires, IsCircuit-from_IsDesign}
use Rattle.design.proofs.Parts.{gate_equation, flop_equation}
use Rattle.design.proofs.plain.net_value.Goals as goal

pub asked_tick-asked-requires : goal.asked_tick-asked-requires
asked_tick-asked-requires c =
    has_timing c.args.design.now.circuit (IsCircuit-from_IsDesign c.args.design.now c.requires.formed) c.args.net _ _ c.part-part.ensures c.timing-timing.ensures

pub gate_value-requires-clause-arity : goal.gate_value-requires-clause-arity
gate_value-requires-clause-arity c =
    gate_arity c.args.design.now c.requires.formed c.args.net c.in-Gate.kind _ (c.part-part.ensures ∙ ap Some c.in-Gate.is) c.pins_of-pins.ensures

pub gate_value-requires-clause-pins : goal.gate_value-requires-clause-pins
gate_value-requires-clause-pins c =
    rw c.requires.all_nets (pins_below c.args.design.now c.requires.formed c.args.net _ c.pins_of-pins.ensures)

pub gate_value-requires-clause-wires : goal.gate_value-requires-clause-wires
gate_value-requires-clause-wires c =
    has_wires c.args.design.now.circuit (IsCircuit-from_IsDesign c.args.design.now c.requires.formed) c.args.net _ _ c.pins_of-pins.ensures c.wires_of-wires.ensures

pub bounds-wires-0 : goal.bounds-wires-0
bounds-wires-0 c =
    let one = flop_arity c.args.design.now c.requires.formed c.args.net _ (c.part-part.ensures ∙ ap Some c.in-Flop.is) c.pins_of-pins.ensures in
    let wired = has_wires c.args.design.now.circuit (IsCircuit-from_IsDesign c.args.design.now c.requires.formed) c.args.net _ _
    c.pins_of-pins.ensures c.wires_of-wires.ensures in
    omega arith

pub bounds-pins-0 : goal.bounds-pins-0
bounds-pins-0 c =
    omega (arith, flop_arity c.args.design.now c.requires.formed c.args.net _ (c.part-part.ensures ∙ ap Some c.in-Flop.is) c.pins_of-pins.ensures)

pub sampled_value-requires : goal.sampled_value-requires
sampled_value-requires c =
    let one = flop_arity c.args.design.now c.requires.formed c.args.net _ (c.part-part.ensures ∙ ap Some c.in-Flop.is) c.pins_of-pins.ensures in
    rw c.requires.all_nets (pins_below c.args.design.now c.requires.formed c.args.net _ c.pins_of-pins.ensures 0 0 (omega arith))

pub returns-in-Gate : goal.returns-in-Gate
returns-in-Gate c =
    let asked = c.asked_tick-asked.ensures ∙ ap (λ part. asked_of_part part c.timing-timing.result c.args.tick) c.in-Gate.is in
    rw (
      ← gate_equation (slice_get c.args.design.now.circuit c.args.net) c.in-Gate.kind c.pins_of-pins.result.now c.wires_of-wires.result.now
          c.timing-timing.result (c.part-part.ensures ∙ ap Some c.in-Gate.is) c.pins_of-pins.ensures c.wires_of-wires.ensures
          c.timing-timing.ensures (signals_in c.args.waves.now) c.args.tick,
      ← asked,
    ) c.gate_value.ensures

pub returns-in-Flop : goal.returns-in-Flop
returns-in-Flop c =
    let asked = c.asked_tick-asked.ensures ∙ ap (λ part. asked_of_part part c.timing-timing.result c.args.tick) c.in-Flop.is in
    let circuit = c.args.design.now.circuit in
    c.sampled_value.ensures
    ∙ ap (λ asked. option_map_or (later (get_or c.wires_of-wires.result.now 0 0) (signals_in c.args.waves.now (get_or c.pins_of-pins.result.now 0 0))) asked
    c.timing-timing.result.initial) asked
    ∙ flop_equation (slice_get circuit c.args.net) c.pins_of-pins.result.now c.wires_of-wires.result.now c.timing-timing.result
    (c.part-part.ensures ∙ ap Some c.in-Flop.is) c.pins_of-pins.ensures c.wires_of-wires.ensures c.timing-timing.ensures
    (flop_arity c.args.design.now c.requires.formed c.args.net _ (c.part-part.ensures ∙ ap Some c.in-Flop.is) c.pins_of-pins.ensures)
    (has_wires circuit (IsCircuit-from_IsDesign c.args.design.now c.requires.formed) c.args.net _ _ c.pins_of-pins.ensures c.wires_of-wires.ensures)
    (signals_in c.args.waves.now) c.args.tick
