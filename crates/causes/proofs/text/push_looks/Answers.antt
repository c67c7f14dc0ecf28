use Rattle.design.proofs.CallerLemmas.{pins_below, IsCircuit-from_IsDesign, has_wires}
use Rattle.causes.proofs.text.push_looks.Goals as goal

pub push_pins-requires-clause-pins : goal.push_pins-requires-clause-pins
push_pins-requires-clause-pins c = pins_below c.args.design.now c.requires.formed c.args.net _ c.pins_of.ensures

pub push_pins-requires-clause-wires : goal.push_pins-requires-clause-wires
push_pins-requires-clause-wires c =
    has_wires c.args.design.now.circuit (IsCircuit-from_IsDesign c.args.design.now c.requires.formed) c.args.net _ _ c.pins_of.ensures c.wires_of.ensures
