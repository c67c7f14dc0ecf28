use Rattle.std.proofs.Common.{◌∙◌, ◌++◌, ap, map}
use Rattle.logic3.specs.Wave.{value_at}
use Rattle.timing_diagram.specs.Picture.{bus_labels, bus_path, name_row, path_row}
use Rattle.timing_diagram.proofs.Joined.{joined₃}
use Rattle.timing_diagram.proofs.bus_picture.push_bus_row.Goals as goal

pub returns : goal.returns
returns c =
    let bits = map value_at c.args.bus.now.bits.items in
    joined₃ _ _ _ _ (name_row c.args.place c.args.bus.now.name.now) (path_row c.args.left c.args.place (bus_path bits c.args.columns))
    (bus_labels c.args.left c.args.place bits c.args.columns)
    c.in_ok-push_name.ensures
    (c.in_ok-push_shape.ensures
    ∙ ap (λ ws. c.push_name.new.text.items ++ path_row c.args.left c.args.place (bus_path (map value_at ws) c.args.columns)) c.as_slice-bits.ensures.value)
    (c.in_ok-push_labels.ensures
    ∙ ap (λ ws. c.push_shape.new.text.items ++ bus_labels c.args.left c.args.place (map value_at ws) c.args.columns) c.as_slice-bits.ensures.value)
