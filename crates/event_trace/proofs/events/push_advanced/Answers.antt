use Rattle.std.proofs.Common.{◌<◌, length, sym, subst, ◌∙◌}
use Rattle.design.specs.Circuit.{Circuit}
use Rattle.cmb_events.specs.declared.event.Event.TheVariants.{Advance}
use Rattle.event_trace.specs.Told.{told_by}
use Rattle.event_trace.specs.Trace.{line_of}
use Rattle.event_trace.proofs.EventLines.{advance_added, advance_left_out, advanced_line}
use Rattle.event_trace.proofs.events.push_advanced.Goals as goal

pub returns-in_ok-push_advance-clause-text : goal.returns-in_ok-push_advance-clause-text
returns-in_ok-push_advance-clause-text c =
    let changes = c.changes_within-changes.result.now in
    let is = advanced_line c.args.kernel.now c.apply.new.kernel c.args.net c.in_ok-apply.ensures.ok (c.is_failed.ensures.circuit c.requires.running)
    (c.is_failed.ensures.sound c.requires.running) c.requires.undrained
    (subst (λ (circuit : Circuit). c.args.net < length circuit) (sym c.requires.circuit) c.requires.exists)
    c.frontier-from.result c.frontier-to.result c.frontier-from.ensures.frontier c.frontier-to.ensures.frontier
    c.waveform.result.now c.waveform.ensures.undrained changes c.changes_within-changes.ensures in
    advance_added c.args.shown c.args.design.now.circuit c.args.net c.name.result.now c.name.ensures (line_of c.args.kernel.now.state (Advance c.args.net))
    c.frontier-from.result c.frontier-to.result (told_by changes c.frontier-from.result c.frontier-to.result) is
    (sym (c.shows.ensures changes) ∙ c.if-shows.true) c.args.text.now.items c.push_advance.new.text.items c.in_ok-push_advance.ensures

pub returns-else-shows-clause-text : goal.returns-else-shows-clause-text
returns-else-shows-clause-text c =
    let changes = c.changes_within-changes.result.now in
    let is = advanced_line c.args.kernel.now c.apply.new.kernel c.args.net c.in_ok-apply.ensures.ok (c.is_failed.ensures.circuit c.requires.running)
    (c.is_failed.ensures.sound c.requires.running) c.requires.undrained
    (subst (λ (circuit : Circuit). c.args.net < length circuit) (sym c.requires.circuit) c.requires.exists)
    c.frontier-from.result c.frontier-to.result c.frontier-from.ensures.frontier c.frontier-to.ensures.frontier
    c.waveform.result.now c.waveform.ensures.undrained changes c.changes_within-changes.ensures in
    advance_left_out c.args.shown c.args.design.now.circuit (line_of c.args.kernel.now.state (Advance c.args.net)) c.args.net
    c.frontier-from.result c.frontier-to.result (told_by changes c.frontier-from.result c.frontier-to.result) is
    (sym (c.shows.ensures changes) ∙ c.if-shows.false) c.args.text.now.items
