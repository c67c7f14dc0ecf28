use Rattle.std.proofs.Common.{arith, ◌∙◌, ◌+◌, ap, max, drop, []}
use Rattle.logic3.specs.declared.value.Value.TheVariants.{Unknown}
use Rattle.vcd_dump.specs.Traces.{traces}
use Rattle.timing_diagram.specs.Picture.{widest}
use Rattle.timing_diagram.proofs.Nets.{traces-next, widest-next}
use Rattle.timing_diagram.proofs.text.widest.Goals as goal

pub loop-net-preserved : goal.loop-net-preserved
loop-net-preserved c =
    let circuit = c.args.design.now.circuit in
    let shown = c.args.shown.now in
    let waves = c.args.waves.now in
    let place = c.loop-net.net-index in
    let name = c.name.result.now in
    let next = traces-next circuit shown waves place name (record { before = Unknown; changes = [] }) (omega arith) c.requires.one_wave_each c.name.ensures in
    ap (λ w. max w (widest (traces circuit (drop (place + 1) shown) (drop (place + 1) waves)))) c.max-width.ensures
    ∙ widest-next _ _ _ c.loop-net.width next ∙ c.loop-net.invariant
