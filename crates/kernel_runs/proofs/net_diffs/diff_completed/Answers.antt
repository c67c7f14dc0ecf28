use Rattle.std.proofs.Common.{◌≡◌, ◌&&◌, sym, ap, ◌∙◌}
use Rattle.wave_diff.specs.Comparison.{is_same}
use Rattle.prepared_runs.specs.Prepared.{seen_run}
use Rattle.kernel_runs.proofs.Diffs.{IsDiff-next}
use Rattle.kernel_runs.proofs.net_diffs.diff_completed.Goals as goal
use Rattle.kernel_runs.proofs.net_diffs.diff_completed.Goals.{then-same, else-same}

pub loop-name-preserved : goal.loop-name-preserved
loop-name-preserved c =
    let comparison = c.comparison-comparison.result in
    let kept : c.if-same.same ≡ (c.loop-name.same && is_same comparison) = elim c.if-same.branch [
      | then-same w ↦ w.same-is ∙ w.is_same-same.ensures ∙ sym (ap (λ s. s && is_same comparison) w.if-same.true)
      | else-same w ↦ w.same-is ∙ w.if-same.false ∙ sym (ap (λ s. s && is_same comparison) w.if-same.false)
    ] in
    IsDiff-next (seen_run c.args.one.now) (seen_run c.args.other.now) c.args.ticks c.args.names.now c.loop-name.name-index _
    c.loop-name.text.items c.push_line.new.text.items c.loop-name.same c.if-same.same comparison
    c.loop-name-test.true c.loop-name.invariant c.comparison-comparison.ensures c.in_ok-push_line.ensures kept
