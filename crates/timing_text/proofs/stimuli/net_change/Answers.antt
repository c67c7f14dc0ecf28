use Rattle.std.proofs.Common.{ap, sym, ◌∙◌, arith}
use Rattle.netlist.specs.Part.{is_input}
use Rattle.timing_text.proofs.StimulusLines.{stimulus_or_fault-Ok}
use Rattle.timing_text.proofs.stimuli.net_change.Goals as goal

pub returns-clause-change : goal.returns-clause-change
returns-clause-change c =
    let driven = ap is_input (sym c.part.ensures) ∙ sym c.is_input.ensures ∙ c.if-not-is_input.false in
    let read = rw c.in-Some.is at c.tick_name_and_word.ensures in
    stimulus_or_fault-Ok c.args.netlist.now c.args.line 0xffff_ffff_ffff_ffff c.args.code.now c.in-Some.name.now c.in-Some.word.now c.in-Some-find.net c.in-Some.tick c.in-Some-value_of.value
    read (sym c.in-Some-find.ensures) driven (omega arith) (omega arith) (sym c.in-Some-value_of.ensures)
