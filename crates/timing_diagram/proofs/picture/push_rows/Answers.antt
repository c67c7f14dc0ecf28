use Rattle.std.proofs.Common.{arith, ◌∙◌, ◌+◌, ◌++◌, ap, append_assoc, drop, get_or}
use Rattle.logic3.specs.Wave.{value_at}
use Rattle.vcd_dump.specs.Traces.{traces}
use Rattle.timing_diagram.specs.Picture.{name_row, signal_row, trace_row}
use Rattle.timing_diagram.proofs.Nets.{traces-next, rows-next}
use Rattle.timing_diagram.proofs.picture.push_rows.Goals as goal

pub loop-place-preserved : goal.loop-place-preserved
loop-place-preserved c =
    let circuit = c.args.design.now.circuit in
    let shown = c.args.shown.now in
    let waves = c.args.waves.now in
    let place = c.loop-place.place in
    let name = c.name.result.now in
    let wave = c.index-waves-place.result in
    let at = value_at (get_or waves place wave) in
    rows-next (trace_row c.args.left c.args.columns) place (name, at) (traces circuit (drop place shown) (drop place waves))
    (traces circuit (drop (place + 1) shown) (drop (place + 1) waves)) c.loop-place.text.items c.push_signal_row.new.text.items
    (traces-next circuit shown waves place name wave (omega arith) c.requires.one_wave_each c.name.ensures)
    (c.in_ok-push_signal_row.ensures
    ∙ ap (λ w. c.push_name.new.text.items ++ signal_row c.args.left c.args.columns place (value_at w)) c.index-waves-place.is
    ∙ ap (λ xs. xs ++ signal_row c.args.left c.args.columns place at) c.in_ok-push_name.ensures
    ∙ append_assoc c.loop-place.text.items (name_row place name) (signal_row c.args.left c.args.columns place at))
    ∙ c.loop-place.invariant
