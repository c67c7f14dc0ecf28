use Rattle.std.proofs.Common.{arith, ◌≤◌, ◌-◌, ◌++◌, ◌∙◌, ap, sym, codes}
use Rattle.std.specs.Option.{option_map_or}
use Rattle.netlist.specs.Netlist.{net_at, name_at}
use Rattle.design.specs.Equations.{value_of}
use Rattle.causes.specs.Text.{shown_text}
use Rattle.causes.proofs.Pieces.{joined₂}
use Rattle.causes.proofs.SignalsUpTo.{wave_each, shown_up_to, source_found}
use Rattle.causes.proofs.text.push_pin.Goals as goal

pub shown-requires : goal.shown-requires
shown-requires c =
    let each = wave_each c.args.design.now.circuit c.args.asked c.args.waves.now c.requires.waves in omega (arith, each, c.requires.pin)

pub returns-in_ok-push_shown-in-Some : goal.returns-in_ok-push_shown-in-Some
returns-in_ok-push_shown-in-Some c =
    let design = c.args.design.now in
    let wire = c.from.ensures in
    let found = source_found c.args.wire c.args.asked c.in-Some.at (omega (arith, wire, c.in-Some.ensures.0))
    (c.in-Some.ensures.1 ∙ ap (λ n. c.args.asked - n) wire) in
    let early : c.in-Some.at ≤ c.args.asked = omega (arith, c.in-Some.ensures.1) in
    let value = c.shown.ensures ∙ shown_up_to design.circuit c.args.asked c.args.waves.now c.requires.waves c.args.pin c.in-Some.at early in
    let name = c.name-name.ensures ∙ ap (λ netlist. (net_at netlist c.args.pin).name) c.netlist.ensures in
    joined₂ _ _ _ (codes ", ") (shown_text c.name-name.result.now c.in-Some.at c.shown.result)
    c.in_ok-extend_from_slice.ensures.items c.in_ok-push_shown-in-Some.ensures
    ∙ (λ i. c.args.text.now.items ++ (codes ", " ++ shown_text (name i) c.in-Some.at (value i)))
    ∙ (λ i. c.args.text.now.items ++ (codes ", " ++ option_map_or (λ at. shown_text (name_at design.netlist c.args.pin) at (value_of design.circuit c.args.pin at))
    (sym found i) (name_at design.netlist c.args.pin ++ codes " = x")))
