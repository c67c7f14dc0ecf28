use Rattle.std.proofs.Common.{◌≡◌, ◌++◌, ◌∙◌, OnOk, ap, map, subst, sym, All, List, arith}
use Rattle.std.proofs.lemmas.List.Elements.{All-filter}
use Rattle.drawn_stimuli.specs.declared.input.InputNet.{InputNet}
use Rattle.drawn_stimuli.specs.Inputs.{IsInputNet, seen_input}
use Rattle.drawn_stimuli.specs.StimulusText.{tick_text}
use Rattle.drawn_stimuli.proofs.Quiet.{input_moves, moving_tick}
use Rattle.drawn_stimuli.proofs.text.push_due.Goals as goal

pub push_tick-requires-else-tick-rounds-eq0-clause-inputs : goal.push_tick-requires-else-tick-rounds-eq0-clause-inputs
push_tick-requires-else-tick-rounds-eq0-clause-inputs c =
    subst (λ (moving : List InputNet). All (IsInputNet c.args.netlist.now) moving) (sym c.requires.moving)
    (All-filter input_moves (IsInputNet c.args.netlist.now) c.args.inputs.now c.requires.inputs)

pub returns-else-tick-rounds-eq0 : goal.returns-else-tick-rounds-eq0
returns-else-tick-rounds-eq0 c =
    let netlist = c.args.netlist.now in
    let rounds = c.args.rounds in
    let same =
    ap (λ moving. tick_text rounds (map (seen_input netlist) moving) c.args.tick) c.requires.moving
    ∙ moving_tick netlist rounds c.args.inputs.now c.args.tick c.requires.rounds c.requires.inputs c.if-tick-rounds-eq0.false (omega (arith, c.requires.tick)) in
    subst (λ lines. OnOk c.push_tick-else-tick-rounds-eq0.result (c.push_tick-else-tick-rounds-eq0.new.text.items ≡ c.args.text.now.items ++ lines)) same
    c.push_tick-else-tick-rounds-eq0.ensures
