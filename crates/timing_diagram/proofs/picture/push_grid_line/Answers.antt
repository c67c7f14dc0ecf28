use Rattle.std.proofs.Common.{◌∙◌, ◌+◌, ◌*◌, ◌++◌, ap, codes}
use Rattle.timing_diagram.specs.Ruler.{label_column, label_tick}
use Rattle.texts.specs.Written.{numbered}
use Rattle.timing_diagram.proofs.Joined.{joined₅}
use Rattle.timing_diagram.proofs.picture.push_grid_line.Goals as goal

pub returns : goal.returns
returns c =
    let at = ap (λ column. c.args.left + 10 * column) c.label_column.ensures.column in
    joined₅ _ _ _ _ _ _
    (numbered (codes "<path d=\"M") (c.args.left + 10 * label_column c.args.columns c.args.place))
    (numbered (codes " 20V") c.args.height)
    (numbered (codes "\" stroke=\"currentColor\" stroke-opacity=\"0.2\"/><text y=\"14\" x=\"") (c.args.left + 10 * label_column c.args.columns c.args.place))
    (numbered (codes "\">") (label_tick c.args.columns c.args.place))
    (codes "</text>\n")
    (c.in_ok-push_numbered.ensures ∙ ap (λ n. c.args.text.now.items ++ numbered (codes "<path d=\"M") n) at) c.in_ok-push_numbered-2.ensures
    (c.in_ok-push_numbered-3.ensures
    ∙ ap (λ n. c.push_numbered-2.new.text.items ++ numbered (codes "\" stroke=\"currentColor\" stroke-opacity=\"0.2\"/><text y=\"14\" x=\"") n) at)
    (c.in_ok-push_numbered-4.ensures ∙ ap (λ n. c.push_numbered-3.new.text.items ++ numbered (codes "\">") n) c.label.ensures.value)
    c.in_ok-extend_from_slice.ensures.items
