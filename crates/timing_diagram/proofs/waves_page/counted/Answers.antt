use Rattle.std.proofs.Common.{◌∙◌, ◌+◌, ap, arith, length, min}
use Rattle.logic3.specs.Wave.{value_at}
use Rattle.timing_diagram.specs.WavesPage.{later_changes, most_values}
use Rattle.timing_diagram.proofs.Counted.{counted-more}
use Rattle.timing_diagram.proofs.Nets.{bit-next}
use Rattle.timing_diagram.proofs.waves_page.counted.Goals as goal

pub loop-wave-preserved : goal.loop-wave-preserved
loop-wave-preserved c =
    let before = c.loop-wave.count in
    let counted = c.more-count.ensures ∙ ap (λ n. min (most_values + 1) (before + (1 + n))) (ap length c.later_changes.ensures) in (
      omega (arith, c.more-count.ensures),
      counted-more (λ signal. 1 + length (later_changes signal c.args.columns)) (value_at c.wave-item.result) _ _ (most_values + 1) before c.more-count.result _
          c.loop-wave.invariant.0
          (bit-next c.args.waves.now c.loop-wave.wave-index c.wave-item.result c.loop-wave-test.true c.wave-item.is)
          counted c.loop-wave.invariant.1,
    )
