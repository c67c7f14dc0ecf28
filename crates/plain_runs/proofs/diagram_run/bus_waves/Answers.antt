use Rattle.std.proofs.Common.{◌∙◌, ◌<◌, All, ap, length, map, subst, sym}
use Rattle.logic3.specs.Wave.{value_at}
use Rattle.prepared_runs.specs.declared.lanes.BusNets.{BusNets}
use Rattle.prepared_runs.specs.Shown.{wave_at}
use Rattle.plain_runs.proofs.Diagrams.{bus_within, maps, more_traces}
use Rattle.plain_runs.proofs.diagram_run.bus_waves.Goals as goal

pub copies-requires : goal.copies-requires
copies-requires c =
    subst (All (λ net. net < length c.args.waves.now)) (sym (c.as_slice.ensures.value ∙ ap (λ (bus : BusNets). bus.nets.items) c.bus-item.is))
    (bus_within (λ net. net < length c.args.waves.now) c.args.buses.now c.loop-bus.bus-index c.bus-item.result c.loop-bus-test.true c.requires)

pub loop-bus-preserved : goal.loop-bus-preserved
loop-bus-preserved c =
    let waves = c.args.waves.now in
    let bus = c.bus-item.result in
    more_traces waves c.args.buses.now c.loop-bus.bus-index bus c.loop-bus.drawn.items c.push.new.self.items _ c.loop-bus-test.true c.bus-item.is
    c.in_ok-push.ensures.items
    (ap (λ bits. (bus.name.now, bits)) (ap (map value_at) (c.in_ok-bits.ensures ∙ ap (map (wave_at waves)) c.as_slice.ensures.value)
    ∙ maps (wave_at waves) value_at bus.nets.items))
    c.loop-bus.invariant
