use Rattle.std.proofs.Common.{Some, ap, ◌∙◌}
use Rattle.design.proofs.CallerLemmas.{pins_below, IsCircuit-from_IsDesign, flop_arity, gate_arity, has_wires}
use Rattle.causes.proofs.reasons.reason_at.Goals as goal

pub gate_reason-requires-clause-arity : goal.gate_reason-requires-clause-arity
gate_reason-requires-clause-arity c =
    gate_arity c.args.design.now c.requires.formed c.args.net c.in-Gate.kind _ (c.part-part.ensures ∙ ap Some c.in-Gate.is) c.pins_of-pins.ensures

pub gate_reason-requires-clause-pins : goal.gate_reason-requires-clause-pins
gate_reason-requires-clause-pins c =
    rw c.requires.all_nets (pins_below c.args.design.now c.requires.formed c.args.net _ c.pins_of-pins.ensures)

pub gate_reason-requires-clause-wires : goal.gate_reason-requires-clause-wires
gate_reason-requires-clause-wires c =
    has_wires c.args.design.now.circuit (IsCircuit-from_IsDesign c.args.design.now c.requires.formed) c.args.net _ _
    c.pins_of-pins.ensures c.wires_of-wires.ensures

pub flop_reason-requires : goal.flop_reason-requires
flop_reason-requires c =
    has_wires c.args.design.now.circuit (IsCircuit-from_IsDesign c.args.design.now c.requires.formed) c.args.net _ _
    c.pins_of-pins.ensures c.wires_of-wires.ensures
    ∙ flop_arity c.args.design.now c.requires.formed c.args.net _ (c.part-part.ensures ∙ ap Some c.in-Flop.is) c.pins_of-pins.ensures
