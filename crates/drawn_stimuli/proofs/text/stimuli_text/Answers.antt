use Rattle.std.proofs.Common.{◌∙◌, List, ap, map, Ok, sym}
use Rattle.texts.specs.Text.{unless_too_long}
use Rattle.drawn_stimuli.specs.declared.fault.DriveFault.TheVariants.{TooLong}
use Rattle.drawn_stimuli.specs.declared.input.InputNet.{InputNet}
use Rattle.drawn_stimuli.specs.Inputs.{drawn_count, drives_or_fault, seen_input, seen_input_drive}
use Rattle.drawn_stimuli.specs.Given.{input_drives, seen_drive}
use Rattle.drawn_stimuli.specs.StimulusText.{lines_text}
use Rattle.drawn_stimuli.proofs.Drawn.{all_kept, stimuli_text-drawn, text_or_fault-kept}
use Rattle.drawn_stimuli.proofs.text.stimuli_text.Goals as goal

pub returns-clause-exact : goal.returns-clause-exact
returns-clause-exact c = λ some.
    let netlist = c.args.netlist.now in
    let given = map seen_drive c.args.drives.now in
    let drives = input_drives netlist given in
    let parts = ap (map seen_input_drive) c.as_slice.ensures.value ∙ c.in_ok-parts.ensures in
    let kept = all_kept _ _ _ (c.in_ok-by_net.ensures.exact (λ e. (cc)) ∙ ap (drives_or_fault netlist) parts) in
    let inputs : List InputNet = c.as_slice-4.result.now in
    let same = c.as_slice-4.ensures.value in
    let are = ap (map (seen_input netlist)) same ∙ c.in_ok-inputs.ensures.inputs drives (ap (map (λ drives. drives.items)) c.as_slice-2.ensures.value ∙ kept.1) in
    let counted = c.drawn_count.ensures.count netlist ∙ ap (λ inputs. drawn_count (map (seen_input netlist) inputs)) (c.as_slice-3.ensures.value ∙ sym same) in
    c.lines_text.ensures.exact some
    ∙ ap (λ ticks. unless_too_long TooLong Ok (lines_text (record { draws = c.args.draws; inputs = c.drawn_count.result }) (map (seen_input netlist) inputs) ticks)) c.ticks.ensures.ticks
    ∙ text_or_fault-kept netlist drives c.args.draws c.args.horizon (map (seen_input netlist) inputs) c.drawn_count.result kept.0 are counted
    ∙ stimuli_text-drawn netlist given c.args.draws c.args.horizon c.if-draws-eq0.false
