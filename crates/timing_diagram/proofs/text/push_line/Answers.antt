use Rattle.std.proofs.Common.{◌-◌, ◌++◌, ◌∙◌, ap, codes, length, replicate}
use Rattle.logic3.specs.Wave.{value_at}
use Rattle.timing_diagram.specs.Drawing.{marks_text}
use Rattle.timing_diagram.proofs.Joined.{joined₅}
use Rattle.timing_diagram.proofs.text.push_line.Goals as goal

pub returns : goal.returns
returns c =
    joined₅ _ _ _ _ _ _ c.args.name.now (replicate (c.args.width - length c.args.name.now) 32) (codes "  ")
    (marks_text (value_at c.args.wave.now) c.args.columns) (codes "\n")
    c.in_ok-extend_from_slice.ensures.items
    (c.in_ok-push_times.ensures ∙ ap (λ n. c.extend_from_slice.new.self.items ++ replicate n 32) c.saturating_sub.ensures)
    c.in_ok-extend_from_slice-2.ensures.items
    c.in_ok-push_marks.ensures c.in_ok-push.ensures.items
