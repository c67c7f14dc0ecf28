use Rattle.std.proofs.Common.{[], slice_index_or, sym, ap, ◌∙◌, arith}
use Rattle.std.proofs.lemmas.Slice.Zip.{get_or-zip, length-zip}
use Rattle.flat_lists.specs.Parts.{parts}
use Rattle.netlist.specs.declared.part.Part.TheVariants.{Input}
use Rattle.netlist.proofs.Joined.{length-named_nets, net_at-netlist_view}
use Rattle.netlist.proofs.netlist.Netlist.pins_of.Goals as goal

pub list_of-requires-clause-bounds : goal.list_of-requires-clause-bounds
list_of-requires-clause-bounds c = rw (c.as_slice.ensures.value, c.as_slice-2.ensures.value) c.self.invariant.bounds

pub list_of-requires-clause-number : goal.list_of-requires-clause-number
list_of-requires-clause-number c =
    let known = rw (← c.self.view_is) at c.requires in
    let lists = parts c.self.inside.first_pins.items c.self.inside.pins.items in
    rw (c.as_slice.ensures.value, c.as_slice-2.ensures.value)
    (omega (arith, known, length-named_nets _ _ c.self.invariant.joined.same_length, length-zip c.self.inside.drivers.items lists))

pub returns : goal.returns
returns c =
    let known = rw (← c.self.view_is) at c.requires in
    let lists = parts c.self.inside.first_pins.items c.self.inside.pins.items in
    let long = length-zip c.self.inside.drivers.items lists in
    let nets = length-named_nets _ _ c.self.invariant.joined.same_length in
    let stored = net_at-netlist_view _ _ c.self.invariant.joined.same_length c.self.inside.outputs.items c.args.net known (Input, []) in
    rw (← c.self.view_is, stored)
    (c.list_of.ensures
    ∙ (λ i. slice_index_or (parts (c.as_slice-2.ensures.value i) (c.as_slice.ensures.value i)) c.args.net [])
    ∙ ap (λ both. both.1) (sym (get_or-zip c.self.inside.drivers.items lists c.args.net (Input, []) (omega (arith, known, nets, long)) (omega (arith, known, nets, long)))))
