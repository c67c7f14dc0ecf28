use Rattle.std.proofs.Common.{◌+◌, ◌*◌, codes, map}
use Rattle.logic3.specs.Wave.{value_at}
use Rattle.texts.specs.Written.{numbered}
use Rattle.timing_diagram.specs.Picture.{bus_path}
use Rattle.timing_diagram.proofs.Joined.{joined₅}
use Rattle.timing_diagram.proofs.bus_picture.push_shape.Goals as goal

pub returns : goal.returns
returns c =
    joined₅ _ _ _ _ _ _
    (numbered (codes "<path transform=\"translate(") c.args.left)
    (numbered (codes " ") (30 * c.args.place + 30))
    (codes ")\" d=\"")
    (bus_path (map value_at c.args.bits.now) c.args.columns)
    (codes "\" fill=\"none\" stroke=\"currentColor\"/>\n")
    c.in_ok-push_numbered.ensures c.in_ok-push_numbered-2.ensures c.in_ok-extend_from_slice.ensures.items
    c.in_ok-push_values.ensures c.in_ok-extend_from_slice-2.ensures.items
