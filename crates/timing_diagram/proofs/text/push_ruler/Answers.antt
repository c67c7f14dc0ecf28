use Rattle.std.proofs.Common.{arith, ◌∙◌, ◌++◌, ap, codes, flat_map, replicate}
use Rattle.std.specs.List.{range_with_len}
use Rattle.timing_diagram.specs.Ruler.{label_column, label_count}
use Rattle.timing_diagram.specs.Drawing.{ruler_label}
use Rattle.timing_diagram.proofs.Joined.{from_on-end, from_on-more, regrouped₅}
use Rattle.timing_diagram.proofs.text.push_ruler.Goals as goal

pub loop-place-preserved : goal.loop-place-preserved
loop-place-preserved c =
    from_on-more (ruler_label c.args.columns) c.loop-place.place c.label_count-place-end.result _ _ (omega arith)
    c.in_ok-push_label.ensures ∙ c.loop-place.invariant

pub returns : goal.returns
returns c =
    let columns = c.args.columns in
    let labels = from_on-end (ruler_label columns) c.loop-place.place c.label_count-place-end.result _ _ (omega (arith, c.loop-place-test.false)) c.loop-place.invariant in
    c.in_ok-push.ensures.items ∙ ap (λ text. text ++ codes "\n") labels
    ∙ regrouped₅ c.args.text.now.items (replicate c.args.width 32) (codes "  ") (replicate (label_column columns 0) 46)
    (flat_map (ruler_label columns) (range_with_len 0 (label_count columns))) (codes "\n")
