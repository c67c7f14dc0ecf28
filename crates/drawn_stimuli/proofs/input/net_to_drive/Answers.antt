use Rattle.std.proofs.Common.{◌∙◌, sym, ap}
use Rattle.drawn_stimuli.specs.Inputs.{can_follow, seen_input_drive}
use Rattle.drawn_stimuli.proofs.KeptDrives.{fault_behind-once, fault_behind-twice}
use Rattle.drawn_stimuli.proofs.input.net_to_drive.Goals as goal

pub returns-then-not-can_follow-clause-fault : goal.returns-then-not-can_follow-clause-fault
returns-then-not-can_follow-clause-fault c = λ earlier held.
    fault_behind-twice c.args.netlist.now earlier (λ drives. drives.items) c.args.kept.now (seen_input_drive c.args.driven.now) held
    c.in-Some.ensures.1 c.in-Some.ensures.0 c.index-kept-net.is
    (ap (λ had. can_follow had c.args.driven.now.drive) (sym c.as_slice-had.ensures.value) ∙ sym c.can_follow.ensures ∙ c.if-not-can_follow.true)

pub returns-in-Some-form_fault-clause-fault : goal.returns-in-Some-form_fault-clause-fault
returns-in-Some-form_fault-clause-fault c = λ earlier held.
    fault_behind-once c.args.netlist.now earlier (λ drives. drives.items) c.args.kept.now (seen_input_drive c.args.driven.now) held
    c.in-Some.ensures.1 c.in-Some.ensures.0 c.index-kept-net.is
    (ap (λ had. can_follow had c.args.driven.now.drive) (sym c.as_slice-had.ensures.value) ∙ sym c.can_follow.ensures ∙ c.if-not-can_follow.false)
    ∙ sym c.form_fault.ensures.fault ∙ c.in-Some-form_fault.is

pub returns-clause-fault : goal.returns-clause-fault
returns-clause-fault c = λ earlier held.
    fault_behind-once c.args.netlist.now earlier (λ drives. drives.items) c.args.kept.now (seen_input_drive c.args.driven.now) held
    c.in-Some.ensures.1 c.in-Some.ensures.0 c.index-kept-net.is
    (ap (λ had. can_follow had c.args.driven.now.drive) (sym c.as_slice-had.ensures.value) ∙ sym c.can_follow.ensures ∙ c.if-not-can_follow.false)
    ∙ sym c.form_fault.ensures.fault ∙ c.in_default-form_fault.is
