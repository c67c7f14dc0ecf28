use Rattle.std.proofs.Common.{◌≡◌, ◌∙◌, ◌+◌, ◌*◌, ap, length, map, sym, min}
use Rattle.std.proofs.lemmas.List.{length-map}
use Rattle.timing_diagram.specs.Bus.{seen_bus}
use Rattle.vcd_dump.specs.Traces.{traces}
use Rattle.timing_diagram.proofs.Nets.{length-traces, svg-joined}
use Rattle.timing_diagram.proofs.picture.push_svg.Goals as goal

pub returns : goal.returns
returns c =
    let circuit = c.args.design.now.circuit in
    let shown = c.args.shown.now in
    let waves = c.args.waves.now in
    let buses = map seen_bus c.args.buses.now in
    let many : length shown ≡ length (traces circuit shown waves) = sym (length-traces circuit shown waves c.requires.one_wave_each) in
    svg-joined c.args.columns (traces circuit shown waves) buses _ _ c.count.result (length shown) _ _ _ _ _ _
    (ap (λ n. 8 * n + 16) (c.min.ensures ∙ ap (λ n. min n 255) c.name_width.ensures))
    (ap (λ n. 30 * n + 40) (ap (λ n. n + length c.args.buses.now) many ∙ ap (λ n. length (traces circuit shown waves) + n) (sym (length-map c.args.buses.now seen_bus))))
    c.count.ensures.count many
    c.in_ok-push_heading.ensures c.in_ok-push_grid.ensures c.in_ok-push_rows.ensures c.in_ok-push_bus_rows.ensures c.in_ok-extend_from_slice.ensures.items
