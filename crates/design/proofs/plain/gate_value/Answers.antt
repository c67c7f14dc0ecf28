use Rattle.std.proofs.Common.{ap, ◌∙◌, length, subst, sym}
use Rattle.logic3.specs.Gate.{HasArity}
use Rattle.design.specs.Equations.{signals_in}
use Rattle.design.proofs.Parts.{length-pin_values}
use Rattle.design.proofs.plain.gate_value.Goals as goal

pub gate-requires : goal.gate-requires
gate-requires c =
    let long = ap length (c.deref.ensures.value ∙ c.in_ok-read_pins.ensures)
    ∙ length-pin_values (signals_in c.args.waves.now) c.in-Some.tick c.args.pins.now c.args.wires.now c.requires.wires in
    subst (HasArity c.args.kind) (sym long) c.requires.arity
