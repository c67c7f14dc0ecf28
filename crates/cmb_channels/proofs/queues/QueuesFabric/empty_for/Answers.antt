use Rattle.std.proofs.Common.{◌≡◌, length, ap, sym, ◌∙◌}
use Rattle.std.proofs.lemmas.List.{length-map, length-replicate}
use Rattle.design.specs.Pins.{sources_of, all_fed}
use Rattle.design.proofs.CallerLemmas.{length-all_fed, length-sources, sources_below}
use Rattle.cmb_channels.specs.Channels.{sources_in}
use Rattle.cmb_channels.proofs.Sources.{sources_found}
use Rattle.cmb_channels.proofs.queues.QueuesFabric.empty_for.Goals as goal
use Rattle.cmb_channels.proofs.queues.QueuesFabric.empty_for.Goals.{In_ok-empty_queues}

nets : (c : In_ok-empty_queues) → length c.in_ok-fed_pins.field-0 ≡ length c.args.design.now.circuit
nets c = ap length c.in_ok-fed_pins.ensures.fed ∙ length-all_fed _ (sources_of c.args.design.now.circuit)

pins : (c : In_ok-empty_queues) → length c.in_ok-empty_queues.field-0.items ≡ length (sources_of c.args.design.now.circuit)
pins c =
    sym (length-map c.in_ok-empty_queues.field-0.items (λ queue. queue.items))
    ∙ ap length c.in_ok-empty_queues.ensures
    ∙ length-replicate c.pins.result _
    ∙ c.pins.ensures.count
    ∙ sym (length-sources c.args.design.now.circuit)

found : (c : In_ok-empty_queues) →
    sources_in c.in_ok-fed_pins.field-0 (length c.in_ok-empty_queues.field-0.items) ≡ sources_of c.args.design.now.circuit
found c =
    (λ i. sources_in (c.in_ok-fed_pins.ensures.fed i) (pins c i))
    ∙ sources_found (length c.args.design.now.circuit) (sources_of c.args.design.now.circuit) (sources_below c.args.design.now.circuit c.in_ok-fed_pins.ensures.circuit)

pub invariant_of-result : goal.invariant_of-result
invariant_of-result c =
    let at = (goal.at.invariant_of-result c).In_ok-empty_queues in
    c.in_ok-fed_pins.ensures.fed ∙ (λ i. all_fed (sym (nets at) i) (sym (found at) i))

pub returns-clause-sources : goal.returns-clause-sources
returns-clause-sources c = found (goal.at.returns-clause-sources c).In_ok-empty_queues

pub returns-clause-nets : goal.returns-clause-nets
returns-clause-nets c = nets (goal.at.returns-clause-nets c).In_ok-empty_queues
