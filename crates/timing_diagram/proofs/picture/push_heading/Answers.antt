use Rattle.std.proofs.Common.{◌+◌, ◌*◌, codes}
use Rattle.texts.specs.Written.{numbered}
use Rattle.timing_diagram.specs.Picture.{dark_style}
use Rattle.timing_diagram.proofs.Joined.{joined₈}
use Rattle.timing_diagram.proofs.picture.push_heading.Goals as goal

pub returns : goal.returns
returns c =
    let width = c.args.left + 10 * c.args.count + 80 in
    joined₈ _ _ _ _ _ _ _ _ _
    (numbered (codes "<svg xmlns=\"http://www.w3.org/2000/svg\" width=\"") width)
    (numbered (codes "\" height=\"") c.args.height)
    (numbered (codes "\" viewBox=\"0 0 ") width)
    (numbered (codes " ") c.args.height)
    (codes "\" role=\"img\" class=\"nullsim\" color=\"black\" fill=\"currentColor\" font-family=\"monospace\" font-size=\"12\">\n")
    (codes "<title>Timing diagram by nullsim</title>\n")
    dark_style
    (codes "<rect width=\"100%\" height=\"100%\" fill=\"white\"/>\n")
    c.in_ok-push_numbered.ensures c.in_ok-push_numbered-2.ensures c.in_ok-push_numbered-3.ensures c.in_ok-push_numbered-4.ensures
    c.in_ok-extend_from_slice.ensures.items c.in_ok-extend_from_slice-2.ensures.items
    c.in_ok-extend_from_slice-3.ensures.items c.in_ok-extend_from_slice-4.ensures.items
