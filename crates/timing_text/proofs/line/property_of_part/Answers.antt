use Rattle.timing_text.proofs.line.property_of_part.Goals as goal

pub returns-in-Wire-clause-property : goal.returns-in-Wire-clause-property
returns-in-Wire-clause-property c = rw c.in-Wire.is (c.wire_of_pins.ensures.property c.args.part)
