use Rattle.std.proofs.Common.{map}
use Rattle.texts.specs.Text.{code_lines}
use Rattle.timing_text.proofs.GivenStimuli.{Given}
use Rattle.timing_text.proofs.stimuli.read_stimuli.Given as goal

abbrev pub invariant-loop-line : goal.invariant-loop-line
invariant-loop-line l =
    Given l.netlist (code_lines l.text) l.line-iterator (map (λ changes. changes.items) l.stimuli.items)
