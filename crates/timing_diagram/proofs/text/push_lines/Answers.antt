use Rattle.std.proofs.Common.{arith, ◌∙◌, ◌+◌, ◌++◌, ap, drop, get_or}
use Rattle.logic3.specs.Wave.{value_at}
use Rattle.vcd_dump.specs.Traces.{traces}
use Rattle.timing_diagram.specs.Drawing.{line_text}
use Rattle.timing_diagram.proofs.Nets.{traces-next, texts-next}
use Rattle.timing_diagram.proofs.text.push_lines.Goals as goal

pub loop-place-preserved : goal.loop-place-preserved
loop-place-preserved c =
    let circuit = c.args.design.now.circuit in
    let shown = c.args.shown.now in
    let waves = c.args.waves.now in
    let place = c.loop-place.place in
    let name = c.name.result.now in
    let wave = c.index-waves-place.result in
    texts-next (line_text c.args.width c.args.columns) (name, value_at (get_or waves place wave)) (traces circuit (drop place shown) (drop place waves))
    (traces circuit (drop (place + 1) shown) (drop (place + 1) waves)) c.loop-place.text.items c.push_line.new.text.items
    (traces-next circuit shown waves place name wave (omega arith) c.requires.one_wave_each c.name.ensures)
    (c.in_ok-push_line.ensures
    ∙ ap (λ w. c.loop-place.text.items ++ line_text c.args.width c.args.columns (name, value_at w)) c.index-waves-place.is)
    ∙ c.loop-place.invariant
