use Rattle.std.proofs.Common.{◌≡◌, ◌<◌, ◌-◌, Some, slice_get, sym, subst, ◌∙◌}
use Rattle.cmb_kernel.proofs.CallerLemmas.{some_pin, place_is}
use Rattle.design.specs.Circuit.{Circuit, pin_count}
use Rattle.design.specs.Pins.{sources_of}
use Rattle.cmb_events.specs.declared.event.Event.TheVariants.{Deliver}
use Rattle.event_trace.specs.Told.{told_by}
use Rattle.event_trace.specs.Trace.{line_of}
use Rattle.event_trace.proofs.EventLines.{delivered_line, delivery_added, delivery_left_out}
use Rattle.event_trace.proofs.events.push_delivered.Goals as goal

pub pin-requires-clause-place : goal.pin-requires-clause-place
pin-requires-clause-place c = some_pin c.args.design.now.circuit c.args.pin c.pin_net-net.result c.requires.exists c.pin_net-net.ensures.net

pub overflow_sub-place : goal.overflow_sub-place
overflow_sub-place c =
    (place_is c.args.design.now.circuit c.args.pin c.pin_net-net.result c.pin.result c.requires.exists c.pin_net-net.ensures.net c.pin.ensures.pin).0

pub returns-in_ok-push_delivery-clause-text : goal.returns-in_ok-push_delivery-clause-text
returns-in_ok-push_delivery-clause-text c =
    let circuit = c.args.design.now.circuit in
    let changes = c.changes_within-changes.result.now in
    let place = place_is circuit c.args.pin c.pin_net-net.result c.pin.result c.requires.exists c.pin_net-net.ensures.net c.pin.ensures.pin in
    let is = delivered_line c.args.kernel.now c.apply.new.kernel c.args.pin c.in_ok-apply.ensures.ok (c.is_failed.ensures.circuit c.requires.running)
    (c.is_failed.ensures.sound c.requires.running) c.requires.undrained
    (subst (λ (over : Circuit). c.args.pin < pin_count over) (sym c.requires.circuit) c.requires.exists)
    c.received-from.result c.received-to.result c.received-from.ensures.received c.received-to.ensures.received c.pin_source-source.result
    (subst (λ (over : Circuit). slice_get (sources_of over) c.args.pin ≡ Some c.pin_source-source.result) (sym c.requires.circuit) c.pin_source-source.ensures.source)
    c.waveform.result.now c.waveform.ensures.undrained changes c.changes_within-changes.ensures
    circuit c.requires.circuit c.pin_net-net.result (c.args.pin - c.pin.result) c.pin_net-net.ensures.net place.1 in
    delivery_added c.args.shown circuit c.pin_net-net.result c.name.result.now c.name.ensures (line_of c.args.kernel.now.state (Deliver c.args.pin))
    (c.args.pin - c.pin.result) (told_by changes c.received-from.result c.received-to.result) is
    (sym (c.shows.ensures changes) ∙ c.if-shows.true) c.args.text.now.items c.push_delivery.new.text.items c.in_ok-push_delivery.ensures

pub returns-else-shows-clause-text : goal.returns-else-shows-clause-text
returns-else-shows-clause-text c =
    let circuit = c.args.design.now.circuit in
    let changes = c.changes_within-changes.result.now in
    let place = place_is circuit c.args.pin c.pin_net-net.result c.pin.result c.requires.exists c.pin_net-net.ensures.net c.pin.ensures.pin in
    let is = delivered_line c.args.kernel.now c.apply.new.kernel c.args.pin c.in_ok-apply.ensures.ok (c.is_failed.ensures.circuit c.requires.running)
    (c.is_failed.ensures.sound c.requires.running) c.requires.undrained
    (subst (λ (over : Circuit). c.args.pin < pin_count over) (sym c.requires.circuit) c.requires.exists)
    c.received-from.result c.received-to.result c.received-from.ensures.received c.received-to.ensures.received c.pin_source-source.result
    (subst (λ (over : Circuit). slice_get (sources_of over) c.args.pin ≡ Some c.pin_source-source.result) (sym c.requires.circuit) c.pin_source-source.ensures.source)
    c.waveform.result.now c.waveform.ensures.undrained changes c.changes_within-changes.ensures
    circuit c.requires.circuit c.pin_net-net.result (c.args.pin - c.pin.result) c.pin_net-net.ensures.net place.1 in
    delivery_left_out c.args.shown circuit (line_of c.args.kernel.now.state (Deliver c.args.pin)) c.pin_net-net.result
    (c.args.pin - c.pin.result) (told_by changes c.received-from.result c.received-to.result) is
    (sym (c.shows.ensures changes) ∙ c.if-shows.false) c.args.text.now.items
