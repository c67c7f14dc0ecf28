use Rattle.std.proofs.Common.{◌∙◌, ◌+◌, ◌++◌, ◌∷◌, ap, drop, map, sym}
use Rattle.prepared_runs.specs.Lanes.{bus_view}
use Rattle.net_words.proofs.CallerLemmas.{next}
use Rattle.prepared_runs.proofs.MeantNets.{bits-next}
use Rattle.prepared_runs.proofs.lanes.bits_of.Goals as goal

pub loop-bus-preserved : goal.loop-bus-preserved
loop-bus-preserved c =
    let bus = c.bus-item.result in
    bits-next _ _ (bus_view bus) c.loop-bus.bits.items _
    (next bus_view c.args.buses.now c.loop-bus.bus-index bus c.loop-bus-test.true ∙ ap (λ b. bus_view b ∷ drop (c.loop-bus.bus-index + 1) (map bus_view c.args.buses.now)) (sym c.bus-item.is))
    (c.in_ok-extend_from_slice.ensures.items ∙ ap (λ nets. c.loop-bus.bits.items ++ nets) c.as_slice.ensures.value)
    ∙ c.loop-bus.invariant
