use Rattle.std.proofs.Common.{◌++◌, ◌∷◌, [], zero-add, sym, ◌∙◌}
use Rattle.std.proofs.lemmas.List.FromFn.{map-range_with_len_more}
use Rattle.design.specs.Pins.{sources_of, pins_fed}
use Rattle.cmb_channels.proofs.fed_pins.fed_pins.Goals as goal

pub loop-net-preserved : goal.loop-net-preserved
loop-net-preserved c =
    let sources = sources_of c.args.design.now.circuit in
    c.in_ok-push.ensures.ok
    ∙ (λ i. c.loop-net.invariant i ++ c.pins_fed.ensures.fed i ∷ [])
    ∙ sym (map-range_with_len_more (λ net. pins_fed net sources) 0 c.loop-net.net c.loop-net.net (zero-add c.loop-net.net))
