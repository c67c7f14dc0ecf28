use Rattle.std.proofs.Common.{◌≡◌, length, Ok, Err, sym, ap, arith, rules}
use Rattle.timing_text.specs.TimingLines.{property_of_part}
use Rattle.timing_text.proofs.TimingLines.{property_or_fault-unknown, property_or_fault-known}
use Rattle.timing_text.proofs.timings.given_property.Goals as goal

pub returns-in_default-find-clause-property : goal.returns-in_default-find-clause-property
returns-in_default-find-clause-property c =
    property_or_fault-unknown c.args.version c.args.netlist.now c.args.line 0xffff_ffff_ffff_ffff c.args.code.now c.in-Some.name.now c.in-Some.spelled
    c.in-Some.ensures (omega arith) (sym c.in_default-find.ensures)

pub returns-in_err-property-clause-property : goal.returns-in_err-property-clause-property
returns-in_err-property-clause-property c =
    let fault = c.in_err-property.field-0.0 in
    let refused : c.from_residual.result ≡ Err fault = search rules in
    let gives : Err fault ≡ property_of_part c.args.line c.in-Some.spelled c.part.result (length c.pins_of-pins.result.now) = search rules in
    rw refused (property_or_fault-known c.args.version c.args.netlist.now c.args.line 0xffff_ffff_ffff_ffff c.args.code.now c.in-Some.name.now c.in-Some.spelled
    c.in-Some-find.net (length c.pins_of-pins.result.now) c.part.result (Err fault) c.in-Some.ensures (omega arith) (sym c.in-Some-find.ensures) c.part.ensures (ap length c.pins_of-pins.ensures) (omega arith) gives)

pub returns-clause-property : goal.returns-clause-property
returns-clause-property c =
    property_or_fault-known c.args.version c.args.netlist.now c.args.line 0xffff_ffff_ffff_ffff c.args.code.now c.in-Some.name.now c.in-Some.spelled
    c.in-Some-find.net (length c.pins_of-pins.result.now) c.part.result (Ok c.in_ok-property.property) c.in-Some.ensures (omega arith) (sym c.in-Some-find.ensures) c.part.ensures (ap length c.pins_of-pins.ensures) (omega arith)
    c.in_ok-property.ensures.property
