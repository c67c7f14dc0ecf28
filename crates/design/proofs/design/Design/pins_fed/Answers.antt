use Rattle.std.proofs.Common.{◌<◌, [], All, length, slice_index_or, ap, sym, subst, ◌∙◌, arith}
use Rattle.flat_lists.specs.Parts.{parts}
use Rattle.logic3.specs.Rising.{Rises}
use Rattle.design.specs.Circuit.{pin_count}
use Rattle.design.specs.Pins.{sources_of, pins_fed}
use Rattle.design.proofs.FedPins.{all_fed-at, length-pins_fed, pins_fed-rising, pins_fed-within}
use Rattle.design.proofs.Numbers.{length-sources}
use Rattle.design.proofs.Stored.{length-fed, fed_are, pin_limit, well_formed}
use Rattle.design.proofs.design.Design.pins_fed.Goals as goal

pub list_of-requires-clause-bounds : goal.list_of-requires-clause-bounds
list_of-requires-clause-bounds c = rw (c.as_slice.ensures.value, c.as_slice-2.ensures.value) c.self.invariant.fed_bounds

pub list_of-requires-clause-number : goal.list_of-requires-clause-number
list_of-requires-clause-number c =
    rw (c.as_slice.ensures.value, c.as_slice-2.ensures.value)
    (omega (arith, c.requires, length-fed c.self.invariant.joined c.self.view_is))

pub returns-clause-fed : goal.returns-clause-fed
returns-clause-fed c =
    c.list_of.ensures
    ∙ (λ i. slice_index_or (parts (c.as_slice-2.ensures.value i) (c.as_slice.ensures.value i)) c.args.net [])
    ∙ ap (λ fed. slice_index_or fed c.args.net []) (fed_are c.self.invariant.joined c.self.view_is)
    ∙ all_fed-at (length c.args.self.now.circuit) (sources_of c.args.self.now.circuit) c.args.net c.requires

pub returns-clause-rising : goal.returns-clause-rising
returns-clause-rising c = subst Rises (sym (returns-clause-fed c)) (pins_fed-rising c.args.net (sources_of c.args.self.now.circuit))

pub returns-clause-within : goal.returns-clause-within
returns-clause-within c =
    subst (All (λ pin. pin < pin_count c.args.self.now.circuit)) (sym (returns-clause-fed c))
    (subst (λ pins. All (λ pin. pin < pins) (pins_fed c.args.net (sources_of c.args.self.now.circuit))) (length-sources c.args.self.now.circuit)
    (pins_fed-within c.args.net (sources_of c.args.self.now.circuit)))

pub returns-clause-few : goal.returns-clause-few
returns-clause-few c =
    omega (
      arith,
      ap length (returns-clause-fed c),
      length-pins_fed c.args.net (sources_of c.args.self.now.circuit),
      length-sources c.args.self.now.circuit,
      pin_limit c.args.self.now (well_formed c.self.invariant.joined c.self.view_is),
    )
