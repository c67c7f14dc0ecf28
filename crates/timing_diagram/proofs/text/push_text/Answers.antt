use Rattle.std.proofs.Common.{◌∙◌, ◌++◌, ap, flat_map, map}
use Rattle.vcd_dump.specs.Traces.{traces}
use Rattle.timing_diagram.specs.Bus.{seen_bus}
use Rattle.timing_diagram.specs.Drawing.{bus_line, line_text, ruler_text}
use Rattle.timing_diagram.proofs.Joined.{joined₃}
use Rattle.timing_diagram.proofs.text.push_text.Goals as goal

pub returns : goal.returns
returns c =
    let nets = traces c.args.design.now.circuit c.args.shown.now c.args.waves.now in
    let buses = map seen_bus c.args.buses.now in
    let width = c.name_width-width.result in
    joined₃ _ _ _ _ (ruler_text width c.args.columns) (flat_map (line_text width c.args.columns) nets) (flat_map (bus_line width c.args.columns) buses)
    c.in_ok-push_ruler.ensures c.in_ok-push_lines.ensures c.in_ok-push_bus_lines.ensures
    ∙ ap (λ w. c.args.text.now.items ++ (ruler_text w c.args.columns ++ flat_map (line_text w c.args.columns) nets ++ flat_map (bus_line w c.args.columns) buses))
    c.name_width-width.ensures
