use Rattle.texts.specs.Text.{code_lines}
use Rattle.timing_text.specs.Timings.{net_lines}
use Rattle.timing_text.proofs.GivenProperties.{Given}
use Rattle.timing_text.proofs.timings.properties_given.Given as goal

abbrev pub invariant-loop-line : goal.invariant-loop-line
invariant-loop-line l = Given l.version l.netlist (net_lines (code_lines l.text)) l.line-iterator l.given.items
