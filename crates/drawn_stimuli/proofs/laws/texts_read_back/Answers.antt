use Rattle.drawn_stimuli.specs.StimulusText.{Drawing, drives_drawn, inputs_drawn, rounds_of}
use Rattle.drawn_stimuli.proofs.DistinctInputs.{distinct_inputs, names_of_inputs}
use Rattle.drawn_stimuli.proofs.InOrder.{drawn_named, drawn_values}
use Rattle.drawn_stimuli.proofs.ReadBack.{read_drawn}
use Rattle.drawn_stimuli.proofs.laws.texts_read_back.Goals as goal

pub returns-clause-taken : goal.returns-clause-taken
returns-clause-taken c = λ (drawing : Drawing) text in_time is.
    read_drawn drawing.netlist drawing.drives drawing.draws drawing.horizon text drawing.is_netlist in_time is

pub returns-clause-inputs : goal.returns-clause-inputs
returns-clause-inputs c = λ netlist drives. names_of_inputs drives 0 netlist.nets

pub returns-clause-changes : goal.returns-clause-changes
returns-clause-changes c = λ (drawing : Drawing).
    drawn_named (rounds_of drawing.netlist (drives_drawn drawing) drawing.draws) (inputs_drawn drawing) drawing.horizon
    (distinct_inputs drawing.netlist (drives_drawn drawing) drawing.is_netlist)

pub returns-clause-values : goal.returns-clause-values
returns-clause-values c = λ (drawing : Drawing) tick in_time.
    drawn_values (rounds_of drawing.netlist (drives_drawn drawing) drawing.draws) (inputs_drawn drawing) drawing.horizon tick
    (distinct_inputs drawing.netlist (drives_drawn drawing) drawing.is_netlist) in_time
