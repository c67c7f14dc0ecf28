use Rattle.std.proofs.Common.{◌∙◌, [], Some, slice_index_or, ap, sym, arith}
use Rattle.std.proofs.lemmas.Slice.Zip.{length-zip}
use Rattle.design.specs.PickedDesign.{net_in}
use Rattle.flat_lists.specs.Parts.{parts}
use Rattle.design.proofs.Joined.{get_or-zip}
use Rattle.design.proofs.Stored.{length-timings, wires_at}
use Rattle.design.proofs.design.Design.wires_of.Goals as goal

pub list_of-requires-clause-bounds : goal.list_of-requires-clause-bounds
list_of-requires-clause-bounds c = rw (c.as_slice.ensures.value, c.as_slice-2.ensures.value) c.self.invariant.wire_bounds

pub list_of-requires-clause-number : goal.list_of-requires-clause-number
list_of-requires-clause-number c =
    rw (c.as_slice.ensures.value, c.as_slice-2.ensures.value)
    (omega (
      arith,
      c.requires,
      length-timings c.self.invariant.joined c.self.view_is,
      length-zip c.self.inside.timings.items (parts c.self.inside.first_wires.items c.self.inside.wires.items),
    ))

pub returns : goal.returns
returns c =
    let none = (net_in [] 0).timing in
    wires_at c.self.invariant.joined c.self.view_is c.args.net (none, []) c.requires
    ∙ ap (λ both. Some both.1) (get_or-zip c.self.inside.timings.items (parts c.self.inside.first_wires.items c.self.inside.wires.items) c.args.net (none, [])
    (omega (arith, c.requires, length-timings c.self.invariant.joined c.self.view_is)))
    ∙ (λ i. Some (slice_index_or (parts (sym c.as_slice-2.ensures.value i) (sym c.as_slice.ensures.value i)) c.args.net []))
    ∙ ap Some (sym c.list_of.ensures)
