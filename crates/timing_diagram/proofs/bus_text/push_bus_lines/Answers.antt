use Rattle.std.proofs.Common.{◌∙◌}
use Rattle.timing_diagram.specs.Bus.{seen_bus}
use Rattle.timing_diagram.specs.Drawing.{bus_line}
use Rattle.timing_diagram.proofs.Nets.{bus-next, texts-next}
use Rattle.timing_diagram.proofs.bus_text.push_bus_lines.Goals as goal

pub loop-bus-preserved : goal.loop-bus-preserved
loop-bus-preserved c =
    texts-next (bus_line c.args.width c.args.columns) (seen_bus c.bus-item.result) _ _ c.loop-bus.text.items c.push_bus_line.new.text.items
    (bus-next c.args.buses.now c.loop-bus.bus-index c.bus-item.result c.loop-bus-test.true c.bus-item.is)
    c.in_ok-push_bus_line.ensures ∙ c.loop-bus.invariant
