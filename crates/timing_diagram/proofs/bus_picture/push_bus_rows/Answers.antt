use Rattle.std.proofs.Common.{◌≡◌, ◌∙◌, ◌+◌, arith}
use Rattle.timing_diagram.specs.Bus.{seen_bus}
use Rattle.timing_diagram.specs.Picture.{bus_row}
use Rattle.timing_diagram.proofs.Nets.{bus-next, rows-next}
use Rattle.timing_diagram.proofs.bus_picture.push_bus_rows.Goals as goal

pub loop-place-preserved : goal.loop-place-preserved
loop-place-preserved c =
    let place = c.loop-place.place in
    let bus = c.index-buses-place.result in
    let along : c.args.first + (place + 1) ≡ c.args.first + place + 1 = omega arith in
    rw along
    (rows-next (bus_row c.args.left c.args.columns) (c.args.first + place) (seen_bus bus) _ _ c.loop-place.text.items c.push_bus_row.new.text.items
    (bus-next c.args.buses.now place bus (omega arith) c.index-buses-place.is)
    c.in_ok-push_bus_row.ensures
    ∙ c.loop-place.invariant)
