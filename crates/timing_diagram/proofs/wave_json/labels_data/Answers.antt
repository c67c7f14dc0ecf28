use Rattle.std.proofs.Common.{arith, ◌∙◌}
use Rattle.timing_diagram.specs.WaveJson.{label_data}
use Rattle.timing_diagram.proofs.Joined.{from_on-more}
use Rattle.timing_diagram.proofs.wave_json.labels_data.Goals as goal

pub loop-place-preserved : goal.loop-place-preserved
loop-place-preserved c =
    from_on-more (label_data c.args.columns) c.loop-place.place c.label_count-place-end.result _ _ (omega arith)
    c.in_ok-push_label.ensures ∙ c.loop-place.invariant
