use Rattle.std.proofs.Common.{◌∙◌, ◌+◌, ap, drop, map, max}
use Rattle.timing_diagram.specs.Bus.{seen_bus}
use Rattle.timing_diagram.specs.Picture.{widest}
use Rattle.timing_diagram.proofs.Nets.{bus-next, widest-next}
use Rattle.timing_diagram.proofs.bus_text.widest_bus.Goals as goal

pub loop-bus-preserved : goal.loop-bus-preserved
loop-bus-preserved c =
    let buses = c.args.buses.now in
    let next = bus-next buses c.loop-bus.bus-index c.bus-item.result c.loop-bus-test.true c.bus-item.is in
    ap (λ w. max w (widest (drop (c.loop-bus.bus-index + 1) (map seen_bus buses)))) c.max-width.ensures
    ∙ widest-next (seen_bus c.bus-item.result) _ _ c.loop-bus.width next ∙ c.loop-bus.invariant
