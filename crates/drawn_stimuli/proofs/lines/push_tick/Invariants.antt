-- The lines so far, and then those of the inputs left, are all.
use Rattle.std.proofs.Common.{◌≡◌, ◌++◌, drop, map}
use Rattle.drawn_stimuli.specs.Inputs.{seen_input}
use Rattle.drawn_stimuli.specs.StimulusText.{tick_text}
use Rattle.drawn_stimuli.proofs.lines.push_tick.Given as goal

abbrev pub invariant-loop-input : goal.invariant-loop-input
invariant-loop-input l =
    l.text.items ++ tick_text l.rounds (map (seen_input l.netlist) (drop l.input-index l.inputs)) l.tick
    ≡ l.fn.text.items ++ tick_text l.rounds (map (seen_input l.netlist) l.inputs) l.tick
