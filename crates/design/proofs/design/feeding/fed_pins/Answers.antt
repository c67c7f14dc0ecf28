use Rattle.std.proofs.Common.{◌≡◌, get_or, length, map, take, IfOk, ap, sym, subst, ◌∙◌, arith}
use Rattle.std.proofs.lemmas.List.{length-map, take_all}
use Rattle.std.proofs.lemmas.Option.{slice_get-get_or}
use Rattle.design.specs.Pins.{all_fed}
use Rattle.design.proofs.FedPins.{all_fed-first, length-all_fed, stored_more}
use Rattle.design.proofs.design.feeding.fed_pins.Goals as goal

pub loop-pin-init : goal.loop-pin-init
loop-pin-init c = c.in_ok-fed.ensures ∙ sym (all_fed-first c.args.nets)

pub index_mut-requires : goal.index_mut-requires
index_mut-requires c =
    omega (
      arith,
      c.requires.exist c.loop-pin.pin 0 c.loop-pin-test.true,
      length-map c.loop-pin.fed.items (λ v. v.items),
      ap length c.loop-pin.invariant,
      length-all_fed c.args.nets (take c.loop-pin.pin c.args.sources.now),
      c.loop-pin.fed.ok.0,
    )

pub loop-pin-preserved : goal.loop-pin-preserved
loop-pin-preserved c =
    let sources = c.args.sources.now in
    let within = c.loop-pin-test.true in
    stored_more (λ v. v.items) c.loop-pin.fed.items c.args.nets c.loop-pin.pin (get_or sources c.loop-pin.pin 0) sources _ _ c.loop-pin.invariant
    (slice_get-get_or sources c.loop-pin.pin 0 within) (c.requires.exist c.loop-pin.pin 0 within) c.index_mut.ensures.value c.in_ok-push.ensures.ok

pub returns : goal.returns
returns c =
    let all = c.as_slice.ensures.value in
    subst (λ lists. IfOk c.of_lists.result (λ flat. flat ≡ lists))
    (ap (map (λ v. v.items)) all ∙ c.loop-pin.invariant ∙ ap (all_fed c.args.nets) (take_all c.loop-pin.pin c.args.sources.now (omega arith)))
    c.of_lists.ensures
