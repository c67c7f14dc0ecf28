use Rattle.timing_diagram.specs.Bus.{BusTrace, seen_bus}
use Rattle.std.proofs.Common.{◌∙◌, ◌+◌, ap, map, min}
use Rattle.logic3.specs.Wave.{value_at}
use Rattle.timing_diagram.specs.WavesPage.{most_values, value_count}
use Rattle.timing_diagram.proofs.Counted.{counted-more}
use Rattle.timing_diagram.proofs.Nets.{bus-next}
use Rattle.timing_diagram.proofs.waves_page.counted_buses.Goals as goal

pub loop-bus-preserved : goal.loop-bus-preserved
loop-bus-preserved c =
    let before = c.loop-bus.count in (
      c.counted-count.ensures.few,
      counted-more (λ (bus : BusTrace). value_count c.args.columns bus.1) (seen_bus c.bus-item.result) _ _ (most_values + 1) before c.counted-count.result _
          c.loop-bus.invariant.0
          (bus-next c.args.buses.now c.loop-bus.bus-index c.bus-item.result c.loop-bus-test.true c.bus-item.is)
          (c.counted-count.ensures.counted ∙ ap (λ bits. min (most_values + 1) (before + value_count c.args.columns (map value_at bits))) c.as_slice.ensures.value)
          c.loop-bus.invariant.1,
    )
